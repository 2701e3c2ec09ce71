use Rattle.std.proofs.Common.{◌-◌, ◌≤◌, length}
use Rattle.job_lex.specs.Tokens.{Adjoin}
use Rattle.job_lex.proofs.lexer.tokens.Given as goal

abbrev pub invariant-loop-place : goal.invariant-loop-place
invariant-loop-place l = record {
  within : l.place ≤ length l.bytes;
  adjoin : Adjoin l.bytes 0 l.toks.items l.place;
}

abbrev pub decreases-loop-place : goal.decreases-loop-place
decreases-loop-place l = length l.bytes - l.place
