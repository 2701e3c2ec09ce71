-- The nearest of the last so many groups is found.
use Rattle.std.proofs.Common.{◌≡◌, ◌-◌, drop, length, map, filter}
use Rattle.std.specs.Prelude.{option_map}
use Rattle.line_break.specs.Taken.{nearest, reaches_toward}
use Rattle.paragraph_breaks.specs.Nearness.{excess}
use Rattle.paragraph_breaks.proofs.loose.nearest_group.Given as goal

abbrev pub invariant-loop-back : goal.invariant-loop-back
invariant-loop-back l =
    option_map (excess l.best) l.found
    ≡ nearest l.looseness (filter (reaches_toward l.looseness) (map (excess l.best) (drop (length l.groups - l.back) l.groups)))
