use Rattle.job_text.proofs.JobOnce.{job_once, fault_once, job_no_fault}
use Rattle.job_text.proofs.reader.one_reading.Goals as goal

pub returns-clause-job : goal.returns-clause-job
returns-clause-job c = job_once

pub returns-clause-fault : goal.returns-clause-fault
returns-clause-fault c = fault_once

pub returns-clause-not_both : goal.returns-clause-not_both
returns-clause-not_both c = job_no_fault
