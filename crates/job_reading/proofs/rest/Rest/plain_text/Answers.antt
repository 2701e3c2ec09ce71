use Rattle.job_reading.specs.Rest.{left}
use Rattle.job_reading.proofs.PlainReading.{left_plain}
use Rattle.job_reading.proofs.rest.Rest.plain_text.Goals as goal

pub returns-clause-value : goal.returns-clause-value
unfolding left
returns-clause-value c = left_plain _ _ _ _ _ _ _ _ c.if-self.false c.plain_text.ensures.bytes c.plain_text.ensures.file c.plain_text.ensures.ahead
