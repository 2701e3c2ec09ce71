use Rattle.std.proofs.Common.{◌≡◌, ◌≤◌, ◌++◌, length}
use Rattle.job_reading.specs.Rest.{left}
use Rattle.job_text.specs.FontDeclaration.{name_bytes, behind_name}
use Rattle.job_text.proofs.font.name_bytes.Given as goal

abbrev pub invariant-loop-token : goal.invariant-loop-token
invariant-loop-token l = record {
  value : l.name.items ++ name_bytes (left l.more) ≡ name_bytes (left l.rest);
  behind : behind_name (left l.more) ≡ behind_name (left l.rest);
  within : length (left l.more) ≤ length (left l.rest);
}

abbrev pub decreases-loop-token : goal.decreases-loop-token
decreases-loop-token l = length (left l.more)
