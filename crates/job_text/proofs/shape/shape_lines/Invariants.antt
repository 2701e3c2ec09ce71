use Rattle.std.proofs.Common.{◌≡◌, ◌≤◌, length}
use Rattle.job_reading.specs.Rest.{left}
use Rattle.job_reading.specs.Repeats.{times}
use Rattle.job_text.specs.Shapes.{shape_line}
use Rattle.job_text.proofs.shape.shape_lines.Given as goal

abbrev pub invariant-loop-count : goal.invariant-loop-count
invariant-loop-count l = record {
  value : times l.count (shape_line (length l.source)) l.lines (left l.more) ≡ times l.initial.count (shape_line (length l.source)) l.fn.lines (left l.rest);
  within : length (left l.more) ≤ length (left l.rest);
}

abbrev pub decreases-loop-count : goal.decreases-loop-count
decreases-loop-count l = l.count
