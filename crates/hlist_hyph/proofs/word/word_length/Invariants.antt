-- What belongs to the word, and what of the rest does.
use Rattle.std.proofs.Common.{◌≡◌, ◌+◌, drop}
use Rattle.hlist_hyph.specs.Words.{word_length}
use Rattle.hlist_hyph.proofs.word.word_length.Given as goal

abbrev pub invariant-loop-item : goal.invariant-loop-item
invariant-loop-item l =
    (word_length l.tables l.number 63 l.items ≡ l.count + word_length l.tables l.number l.room (drop l.item-index l.items))
    × (l.count ≡ l.item-index)
