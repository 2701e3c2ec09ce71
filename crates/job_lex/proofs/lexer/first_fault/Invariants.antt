use Rattle.std.proofs.Common.{◌-◌, ◌≤◌, length}
use Rattle.job_lex.specs.Tokens.{IsCovered}
use Rattle.job_lex.proofs.lexer.first_fault.Given as goal

abbrev pub invariant-loop-place : goal.invariant-loop-place
invariant-loop-place l = record {
  within : l.place ≤ length l.bytes;
  covered : IsCovered l.bytes l.place;
}

abbrev pub decreases-loop-place : goal.decreases-loop-place
decreases-loop-place l = length l.bytes - l.place
