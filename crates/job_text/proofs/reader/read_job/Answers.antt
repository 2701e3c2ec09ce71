use Rattle.job_text.proofs.JobFitting.{answer_fits}
use Rattle.job_text.proofs.JobOnce.{exact_job, exact_fault}
use Rattle.job_text.proofs.reader.read_job.Goals as goal

pub returns-clause-only : goal.returns-clause-only
returns-clause-only c = λ said is. exact_job _ _ said c.read.ensures is

pub returns-clause-fault : goal.returns-clause-fault
returns-clause-fault c = λ place kind is. exact_fault _ _ place kind c.read.ensures is

pub returns-clause-fits : goal.returns-clause-fits
returns-clause-fits c = answer_fits _ _ c.read.ensures
