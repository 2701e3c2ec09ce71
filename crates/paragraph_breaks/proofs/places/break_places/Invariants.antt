-- The first so many breaks stand.
use Rattle.std.proofs.Common.{◌≡◌, ◌-◌, map, take}
use Rattle.std.specs.Prelude.{slice_index}
use Rattle.line_break.specs.Taken.{places_of}
use Rattle.paragraph_breaks.proofs.places.break_places.Given as goal

abbrev pub invariant-loop-line : goal.invariant-loop-line
invariant-loop-line l = l.breaks ≡ map (λ place. slice_index l.legal (place - 1)) (take l.line (places_of l.way))
