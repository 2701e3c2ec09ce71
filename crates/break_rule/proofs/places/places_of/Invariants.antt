use Rattle.std.proofs.Common.{◌≡◌, ◌≤◌, length, map, filter}
use Rattle.std.specs.List.{range_with_len}
use Rattle.break_rule.specs.Places.{is_place}
use Rattle.break_rule.specs.Kept.{rank_of}
use Rattle.break_rule.proofs.places.places_of.Given as goal

abbrev pub invariant-loop-place : goal.invariant-loop-place
invariant-loop-place l = record {
  legal : l.legal.items ≡ filter (is_place l.params l.items) (range_with_len 0 l.place);
  few : length l.legal.items ≤ l.place;
  ranks : l.ranks.items ≡ map (rank_of l.params l.items) (range_with_len 0 l.place);
}
