-- Where the items that are left stay, all do.
use Rattle.std.proofs.Common.{◌-◌, ◌≤◌, drop, length}
use Rattle.hlist_hyph.specs.Hyphenated.{places_in}
use Rattle.hlist_hyph.specs.Untouched.{Stays}
use Rattle.hlist_hyph.proofs.unchanged.has_places.Given as goal

abbrev pub invariant-loop-at : goal.invariant-loop-at
invariant-loop-at l =
    let places = places_in l.patterns l.params in
    record {
      so_far : Stays l.tables l.stock places (drop l.at l.items) → Stays l.tables l.stock places l.items;
      within : l.at ≤ length l.items;
    }

abbrev pub decreases-loop-at : goal.decreases-loop-at
decreases-loop-at l = length l.items - l.at
