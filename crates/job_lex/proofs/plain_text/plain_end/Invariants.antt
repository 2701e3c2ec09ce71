use Rattle.std.proofs.Common.{◌-◌, ◌≤◌, length}
use Rattle.job_lex.specs.PlainTokens.{ArePlain}
use Rattle.job_lex.proofs.plain_text.plain_end.Given as goal

abbrev pub invariant-loop-to : goal.invariant-loop-to
invariant-loop-to l = record {
  after : l.from ≤ l.to;
  within : l.to ≤ length l.bytes;
  plain : ArePlain l.bytes l.from l.to;
}

abbrev pub decreases-loop-to : goal.decreases-loop-to
decreases-loop-to l = length l.bytes - l.to
