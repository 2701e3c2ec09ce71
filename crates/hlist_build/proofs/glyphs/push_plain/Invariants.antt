use Rattle.std.proofs.Common.{◌≡◌, ◌++◌, drop}
use Rattle.std.specs.Prelude.{None}
use Rattle.lig_kern.specs.Covering.{characters}
use Rattle.hlist_build.specs.Runs.{run_items}
use Rattle.hlist_build.proofs.glyphs.push_plain.Given as goal

abbrev pub invariant-loop-code : goal.invariant-loop-code
invariant-loop-code l =
    l.list ++ run_items l.number l.font.size l.font.codes.hyphen l.codes None (characters l.code-index (drop l.code-index l.codes))
    ≡ l.fn.list ++ run_items l.number l.font.size l.font.codes.hyphen l.codes None (characters 0 l.codes)
