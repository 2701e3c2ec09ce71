use Rattle.std.proofs.Common.{◌≡◌, ◌≤◌, false, length}
use Rattle.job_reading.specs.Rest.{left}
use Rattle.job_reading.specs.Numbers.{signs}
use Rattle.job_reading.proofs.numbers.signs.Given as goal

abbrev pub invariant-loop-token : goal.invariant-loop-token
invariant-loop-token l = record {
  value : signs l.negative (left l.more) ≡ signs false (left l.rest);
  within : length (left l.more) ≤ length (left l.rest);
}

abbrev pub decreases-loop-token : goal.decreases-loop-token
decreases-loop-token l = length (left l.more)
