use Rattle.std.proofs.Common.{◌-◌, ◌≤◌, length}
use Rattle.job_lex.specs.Tokens.{HasNoLineFeed}
use Rattle.job_lex.proofs.gap.line_end.Given as goal

abbrev pub invariant-loop-place : goal.invariant-loop-place
invariant-loop-place l = record {
  after : l.from ≤ l.place;
  within : l.place ≤ length l.bytes;
  before : HasNoLineFeed l.bytes l.from l.place;
}

abbrev pub decreases-loop-place : goal.decreases-loop-place
decreases-loop-place l = length l.bytes - l.place
