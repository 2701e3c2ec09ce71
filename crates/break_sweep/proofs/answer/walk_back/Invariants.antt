use Rattle.std.proofs.Common.{◌≡◌, ◌<◌, ◌++◌, length}
use Rattle.break_sweep.specs.Made.{way_at, ways_of}
use Rattle.break_sweep.proofs.answer.walk_back.Given as goal

abbrev pub invariant-loop-at : goal.invariant-loop-at
invariant-loop-at l = (l.at < length l.nodes) × (l.earlier ++ (way_at (ways_of l.nodes) l.at).earlier ≡ (way_at (ways_of l.nodes) l.index).earlier)

abbrev pub decreases-loop-at : goal.decreases-loop-at
decreases-loop-at l = l.at
