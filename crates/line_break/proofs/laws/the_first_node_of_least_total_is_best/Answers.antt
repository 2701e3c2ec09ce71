use Rattle.line_break.proofs.Ending.{chosen, chosen_of_group}
use Rattle.line_break.proofs.laws.the_first_node_of_least_total_is_best.Goals as goal

pub returns-clause-best : goal.returns-clause-best
returns-clause-best c = chosen

pub returns-clause-of_group : goal.returns-clause-of_group
returns-clause-of_group c = λ q group ended. chosen_of_group q ended group
