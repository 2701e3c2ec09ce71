use Rattle.std.proofs.Common.{◌≡◌, ◌++◌, drop}
use Rattle.hlist_build.specs.Parts.{run_codes}
use Rattle.hlist_build.proofs.building.run_codes.Given as goal

abbrev pub invariant-loop-one : goal.invariant-loop-one
invariant-loop-one l = l.codes.items ++ run_codes (drop l.one-index l.parts) ≡ run_codes l.parts
