use Rattle.std.proofs.Common.{◌≡◌, ◌≤◌, length}
use Rattle.job_reading.specs.Rest.{left}
use Rattle.job_text.specs.Hyphenation.{behind_run}
use Rattle.job_text.proofs.patterns.behind_run.Given as goal

abbrev pub invariant-loop-token : goal.invariant-loop-token
invariant-loop-token l = record {
  value : behind_run (left l.more) ≡ behind_run (left l.rest);
  within : length (left l.more) ≤ length (left l.rest);
}

abbrev pub decreases-loop-token : goal.decreases-loop-token
decreases-loop-token l = length (left l.more)
