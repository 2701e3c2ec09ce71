use Rattle.std.proofs.Common.{length}
use Rattle.job_reading.proofs.rest.Rest.+keyword.Given as goal

abbrev pub decreases-keyword : goal.decreases-keyword
decreases-keyword l = length l.letters.now
