use Rattle.std.proofs.Common.{◌≡◌, ◌≤◌, ◌^◌, length}
use Rattle.std.specs.Prelude.{min}
use Rattle.job_reading.specs.Rest.{left}
use Rattle.job_reading.specs.Numbers.{digits, behind_digits, decimal, decimal_from}
use Rattle.job_reading.proofs.numbers.whole.Given as goal

abbrev pub invariant-loop-token : goal.invariant-loop-token
invariant-loop-token l = record {
  value : min (decimal_from l.value (digits (left l.more))) (2 ^ 31) ≡ min (decimal (left l.rest)) (2 ^ 31);
  small : l.value ≤ 2 ^ 31;
  behind : behind_digits (left l.more) ≡ behind_digits (left l.rest);
  within : length (left l.more) ≤ length (left l.rest);
}

abbrev pub decreases-loop-token : goal.decreases-loop-token
decreases-loop-token l = length (left l.more)
