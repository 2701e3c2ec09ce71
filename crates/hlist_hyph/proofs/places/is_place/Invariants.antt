-- The place is one of all where it is one of the rest.
use Rattle.std.proofs.Common.{◌≡◌, drop}
use Rattle.hlist_hyph.specs.Pieces.{is_place}
use Rattle.hlist_hyph.proofs.places.is_place.Given as goal

abbrev pub invariant-loop-place : goal.invariant-loop-place
invariant-loop-place l = is_place l.places l.at ≡ is_place (drop l.place-index l.places) l.at
