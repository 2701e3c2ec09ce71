-- The hyphenated form of the rest is to come.
use Rattle.std.proofs.Common.{◌≡◌, ◌-◌, ◌≤◌, ◌++◌, drop, length}
use Rattle.hlist_hyph.specs.Hyphenated.{places_in, hyphenated_from}
use Rattle.hlist_hyph.proofs.hyphenating.hyphenated_items.Given as goal

abbrev pub invariant-loop-at : goal.invariant-loop-at
invariant-loop-at l =
    (l.list ++ hyphenated_from l.tables l.stock (places_in l.patterns l.params) 0 (drop l.at l.items)
    ≡ hyphenated_from l.tables l.stock (places_in l.patterns l.params) 0 l.items)
    × (l.at ≤ length l.items)

abbrev pub decreases-loop-at : goal.decreases-loop-at
decreases-loop-at l = length l.items - l.at
