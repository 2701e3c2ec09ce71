use Rattle.std.proofs.Common.{◌≡◌, take}
use Rattle.break_rule.specs.Sharing.{first_in_subs}
use Rattle.break_rule.proofs.expansion.subs_expansion.Given as goal

abbrev pub invariant-loop-sub : goal.invariant-loop-sub
invariant-loop-sub l = l.found ≡ first_in_subs l.stock (take l.sub-index l.subs)
