-- The letters of the rest are to come.
use Rattle.std.proofs.Common.{◌≡◌, ◌++◌, drop}
use Rattle.hlist_hyph.specs.Hyphenated.{lower_word}
use Rattle.hlist_hyph.proofs.places.lower_word.Given as goal

abbrev pub invariant-loop-item : goal.invariant-loop-item
invariant-loop-item l = l.word.items ++ lower_word l.tables (drop l.item-index l.items) ≡ lower_word l.tables l.items
