use Rattle.std.proofs.Common.{◌≤◌, length}
use Rattle.job_reading.specs.Lexemes.{ends_job}
use Rattle.job_reading.specs.Repeats.{read_until}
use Rattle.job_reading.specs.Rest.{left}
use Rattle.job_text.specs.Job.{AreCounted, state_of, job_step}
use Rattle.job_reading.specs.Repeats.{GoesOn}
use Rattle.job_text.proofs.state.State.read.Given as goal

abbrev pub invariant-loop-token : goal.invariant-loop-token
invariant-loop-token l = record {
  value : GoesOn ends_job (job_step l.source) (state_of l.self) (left l.more) (read_until ends_job (job_step l.source) (state_of l.fn.self) (left l.rest));
  within : length (left l.more) ≤ length (left l.rest);
  counts : AreCounted l.self;
}

abbrev pub decreases-loop-token : goal.decreases-loop-token
decreases-loop-token l = length (left l.more)
