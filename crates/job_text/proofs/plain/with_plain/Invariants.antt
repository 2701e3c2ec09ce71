use Rattle.std.proofs.Common.{◌≡◌, ◌+◌, ◌-◌, ◌≤◌, ◌++◌}
use Rattle.std.specs.Prelude.{vec_len, vec_capacity}
use Rattle.job_text.specs.PlainParts.{plain_parts}
use Rattle.job_text.proofs.plain.with_plain.Given as goal

abbrev pub invariant-loop-place : goal.invariant-loop-place
invariant-loop-place l = record {
  parts : l.list.items ++ plain_parts l.text.bytes.now l.place (l.text.from + l.text.count - l.place) ≡ l.fn.parts ++ plain_parts l.text.bytes.now l.text.from l.text.count;
  room : vec_len l.list + (l.text.from + l.text.count - l.place) ≤ vec_capacity l.list;
}
