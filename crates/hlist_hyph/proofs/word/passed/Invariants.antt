-- What is passed, and what is passed of the rest.
use Rattle.std.proofs.Common.{◌≡◌, ◌+◌, drop}
use Rattle.hlist_hyph.specs.Words.{passed}
use Rattle.hlist_hyph.proofs.word.passed.Given as goal

abbrev pub invariant-loop-item : goal.invariant-loop-item
invariant-loop-item l =
    (passed l.tables l.items ≡ l.count + passed l.tables (drop l.item-index l.items)) × (l.count ≡ l.item-index)
