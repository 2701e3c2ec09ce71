use Rattle.line_break.proofs.Ending.{active_list}
use Rattle.line_break.proofs.laws.active_nodes_are_the_open_ways.Goals as goal

pub returns : goal.returns
returns c = active_list
