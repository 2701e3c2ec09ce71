use Rattle.line_break.proofs.BestWays.{best_is, best_of_group_is}
use Rattle.line_break.proofs.laws.no_way_has_a_lower_total.Goals as goal

pub returns-clause-best : goal.returns-clause-best
returns-clause-best c = best_is

pub returns-clause-of_group : goal.returns-clause-of_group
returns-clause-of_group c = best_of_group_is
