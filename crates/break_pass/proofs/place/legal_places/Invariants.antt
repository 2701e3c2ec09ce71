use Rattle.std.proofs.Common.{◌≡◌, map, take}
use Rattle.break_pass.specs.LegalPlaces.{place_at}
use Rattle.break_pass.proofs.place.legal_places.Given as goal

abbrev pub invariant-loop-at : goal.invariant-loop-at
invariant-loop-at l = l.places.items ≡ map (place_at l.rule.params l.rule.items) (take l.at-index l.legal)
