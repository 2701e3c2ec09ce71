use Rattle.std.proofs.Common.{◌≡◌, ◌++◌, length}
use Rattle.job_reading.specs.Rest.{left}
use Rattle.job_text.specs.Hyphenation.{run}
use Rattle.job_text.proofs.patterns.run.Given as goal

abbrev pub invariant-loop-token : goal.invariant-loop-token
invariant-loop-token l = l.codes.items ++ run (left l.more) ≡ run (left l.rest)

abbrev pub decreases-loop-token : goal.decreases-loop-token
decreases-loop-token l = length (left l.more)
