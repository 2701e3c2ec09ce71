use Rattle.std.proofs.Common.{◌≡◌, ◌<◌, ◌-◌, drop, length}
use Rattle.std.specs.Prelude.{option_map, IfSome}
use Rattle.line_break.specs.Sweep.{first_of_least}
use Rattle.break_sweep.specs.Made.{way_at, ways_of, listed}
use Rattle.break_sweep.specs.Choosing.{of_wanted}
use Rattle.break_sweep.proofs.answer.first_of_least.Given as goal

abbrev pub invariant-loop-back : goal.invariant-loop-back
invariant-loop-back l =
    (option_map (way_at (ways_of l.nodes)) l.found ≡ first_of_least (of_wanted l.group (drop (length l.active - l.back) (listed (ways_of l.nodes) l.active))))
    × IfSome l.found (λ i. i < length l.nodes)
