use Rattle.std.proofs.Common.{ap}
use Rattle.micro_num.specs.declared.params.Params.{Params}
use Rattle.hlist_hyph.specs.Hyphenated.{Places}
use Rattle.para_workers.proofs.JobLaws.{places-made}
use Rattle.job_breaks.specs.Lines.{lines_from}
use Rattle.job_breaks.proofs.laws.lines_are_those_of_the_job.Goals as goal

pub returns : goal.returns
returns c = λ table job stock made.
    ap (λ (places : Params → Places). lines_from job.tables places stock 1 job.pars) (places-made table job made)
