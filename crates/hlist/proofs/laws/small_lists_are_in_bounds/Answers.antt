-- Small lists are in bounds.
use Rattle.hlist.proofs.CountLemmas.{small-in_bounds}
use Rattle.hlist.proofs.laws.small_lists_are_in_bounds.Goals as goal

pub returns : goal.returns
returns c = λ list small. small-in_bounds list small
