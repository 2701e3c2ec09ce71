use Rattle.job_breaks.proofs.PassTaken.{some-taken}
use Rattle.job_breaks.proofs.laws.every_paragraph_is_broken.Goals as goal

pub returns : goal.returns
returns c = some-taken
