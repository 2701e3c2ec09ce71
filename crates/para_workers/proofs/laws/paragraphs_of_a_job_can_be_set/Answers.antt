use Rattle.para_workers.proofs.JobLaws.{job-settable}
use Rattle.para_workers.proofs.laws.paragraphs_of_a_job_can_be_set.Goals as goal

pub returns : goal.returns
returns c = job-settable
