use Rattle.std.proofs.Common.{sym, ◌∙◌}
use Rattle.line_break.proofs.Pruning.{best-unpruned}
use Rattle.line_break.proofs.BestWays.{best_unpruned_is}
use Rattle.line_break.proofs.laws.where_nothing_is_rescued_no_way_at_all_is_better.Goals as goal

pub returns-clause-best : goal.returns-clause-best
returns-clause-best c = best-unpruned

pub returns-clause-least : goal.returns-clause-least
returns-clause-least c = λ q b blind quiet e. best_unpruned_is q b (sym (best-unpruned q blind quiet) ∙ e)
