-- The items so far are text.
use Rattle.std.proofs.Common.{◌≡◌, drop}
use Rattle.hlist_hyph.specs.Words.{is_closed}
use Rattle.hlist_hyph.proofs.word.is_closed.Given as goal

abbrev pub invariant-loop-item : goal.invariant-loop-item
invariant-loop-item l = is_closed l.items ≡ is_closed (drop l.item-index l.items)
