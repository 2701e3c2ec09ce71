use Rattle.job_text.proofs.JobOnce.{job_or_fault}
use Rattle.job_text.proofs.reader.job_or_fault.Goals as goal

pub returns : goal.returns
returns c = job_or_fault _ _ c.first_fault.ensures
