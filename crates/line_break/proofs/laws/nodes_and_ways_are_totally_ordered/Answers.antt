use Rattle.line_break.proofs.OrderLemmas.{order_total, order_same, preference_total, way_same}
use Rattle.line_break.proofs.laws.nodes_and_ways_are_totally_ordered.Goals as goal

pub returns-clause-nodes : goal.returns-clause-nodes
returns-clause-nodes c = order_total

pub returns-clause-nodes_apart : goal.returns-clause-nodes_apart
returns-clause-nodes_apart c = order_same

pub returns-clause-ways : goal.returns-clause-ways
returns-clause-ways c = preference_total

pub returns-clause-ways_apart : goal.returns-clause-ways_apart
returns-clause-ways_apart c = way_same
