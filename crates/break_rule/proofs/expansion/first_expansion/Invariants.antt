use Rattle.std.proofs.Common.{◌≡◌, take}
use Rattle.break_rule.specs.Sharing.{first_in}
use Rattle.break_rule.proofs.expansion.first_expansion.Given as goal

abbrev pub invariant-loop-item : goal.invariant-loop-item
invariant-loop-item l = l.found ≡ first_in l.stock (take l.item-index l.items)
