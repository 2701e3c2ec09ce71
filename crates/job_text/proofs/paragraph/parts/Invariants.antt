use Rattle.std.proofs.Common.{◌≤◌, length}
use Rattle.job_reading.specs.Lexemes.{ends_paragraph}
use Rattle.job_reading.specs.Rest.{left}
use Rattle.job_text.specs.Parts.{part}
use Rattle.job_reading.specs.Repeats.{read_until}
use Rattle.job_reading.specs.Repeats.{GoesOn}
use Rattle.job_text.proofs.paragraph.parts.Given as goal

abbrev pub invariant-loop-token : goal.invariant-loop-token
invariant-loop-token l = record {
  value : GoesOn ends_paragraph (part l.source l.names) l.setting (left l.more) (read_until ends_paragraph (part l.source l.names) l.fn.setting (left l.rest));
  within : length (left l.more) ≤ length (left l.rest);
}

abbrev pub decreases-loop-token : goal.decreases-loop-token
decreases-loop-token l = length (left l.more)
