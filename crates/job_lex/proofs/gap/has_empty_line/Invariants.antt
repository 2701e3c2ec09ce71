use Rattle.job_lex.proofs.Gaps.{LineState}
use Rattle.job_lex.proofs.gap.has_empty_line.Given as goal

abbrev pub invariant-loop-place : goal.invariant-loop-place
invariant-loop-place l = LineState l.bytes l.from l.place l.after_line
