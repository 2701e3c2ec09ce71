use Rattle.std.proofs.Common.{◌≤◌, length}
use Rattle.job_reading.specs.Lexemes.{is_close}
use Rattle.job_reading.specs.Repeats.{read_until}
use Rattle.job_reading.specs.Rest.{left}
use Rattle.job_text.specs.Discretionaries.{code_step}
use Rattle.job_reading.specs.Repeats.{GoesOn}
use Rattle.job_text.proofs.discretionary.codes.Given as goal

abbrev pub invariant-loop-token : goal.invariant-loop-token
invariant-loop-token l = record {
  value : GoesOn is_close (code_step (length l.source)) l.list (left l.more) (read_until is_close (code_step (length l.source)) l.fn.list (left l.rest));
  within : length (left l.more) ≤ length (left l.rest);
}

abbrev pub decreases-loop-token : goal.decreases-loop-token
decreases-loop-token l = length (left l.more)
