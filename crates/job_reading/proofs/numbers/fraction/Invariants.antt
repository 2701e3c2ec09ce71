use Rattle.std.proofs.Common.{◌≡◌, ◌-◌, ◌≤◌, ◌++◌, length, take}
use Rattle.std.specs.Prelude.{All}
use Rattle.micro_num.specs.Decimals.{IsDigit}
use Rattle.job_reading.specs.Rest.{left}
use Rattle.job_reading.specs.Numbers.{digits, behind_digits}
use Rattle.job_reading.proofs.numbers.fraction.Given as goal

abbrev pub invariant-loop-token : goal.invariant-loop-token
invariant-loop-token l = record {
  value : take l.count l.decimals ++ take (17 - l.count) (digits (left l.more)) ≡ take 17 (digits (left l.rest));
  small : l.count ≤ 17;
  room : length l.decimals ≡ 17;
  decimal : All IsDigit (take l.count l.decimals);
  behind : behind_digits (left l.more) ≡ behind_digits (left l.rest);
  within : length (left l.more) ≤ length (left l.rest);
}

abbrev pub decreases-loop-token : goal.decreases-loop-token
decreases-loop-token l = length (left l.more)
