-- What holds of the list of each run.
use Rattle.hlist_runs.proofs.LawfulLemmas.{run_subs-lawful}
use Rattle.hlist_runs.proofs.laws.runs_give_lawful_lists.Goals as goal

pub returns : goal.returns
returns c = λ stock number font codes left right subs is e. run_subs-lawful stock number font codes left right subs is e
