-- The rest of the items is to come.
use Rattle.std.proofs.Common.{◌≡◌, ◌++◌, drop}
use Rattle.hlist_hyph.proofs.copying.push_copies.Given as goal

abbrev pub invariant-loop-item : goal.invariant-loop-item
invariant-loop-item l = l.list ++ drop l.item-index l.items ≡ l.fn.list ++ l.items
