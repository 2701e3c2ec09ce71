use Rattle.std.proofs.Common.{◌≡◌, ℕ, ◌≤◌, ◌<◌, ◌-◌, length, get_or}
use Rattle.std.specs.declared.cmp.Ordering.TheVariants.{Less}
use Rattle.line_break.specs.Pass.{order}
use Rattle.break_sweep.specs.declared.made.Made.{Made}
use Rattle.break_sweep.proofs.making.place_for.Given as goal

abbrev pub invariant-loop-back : goal.invariant-loop-back
invariant-loop-back l = (k : ℕ) (d : Made) → length l.active - l.back ≤ k → k < length l.active → order l.ended l.node (get_or l.nodes (get_or l.active k 0) d).node ≡ Less
