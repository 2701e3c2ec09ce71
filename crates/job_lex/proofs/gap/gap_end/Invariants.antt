use Rattle.std.proofs.Common.{◌-◌, length}
use Rattle.job_lex.proofs.Gaps.{IsFront}
use Rattle.job_lex.proofs.gap.gap_end.Given as goal

abbrev pub invariant-loop-to : goal.invariant-loop-to
invariant-loop-to l = IsFront l.bytes l.from l.to

abbrev pub decreases-loop-to : goal.decreases-loop-to
decreases-loop-to l = length l.bytes - l.to
