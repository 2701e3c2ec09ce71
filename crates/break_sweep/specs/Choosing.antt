-- Which node is chosen at the end.
--     is_wanted, of_wanted   the nodes of a group, where one is asked for
--     is_to_take             whether a node is no worse than the one found so far
--     way_back               the way to a node, with the nodes before it
use Rattle.std.specs.Prelude.{ℕ, ◌==◌, Bool, true, int_le, List, Option, Some, None, slice_index_or}
use Rattle.line_break.specs.declared.node.Node.{Node}
use Rattle.line_break.specs.declared.node.Way.{Way}
use Rattle.line_break.specs.Laws.{of_group}
use Rattle.break_sweep.specs.declared.made.Made.{Made}
use Rattle.break_sweep.specs.Made.{no_made}

abbrev pub is_wanted : Node → Option ℕ → Bool
is_wanted x None = true
is_wanted x (Some group) = x.group == group

abbrev pub of_wanted : Option ℕ → List Way → List Way
of_wanted None ws = ws
of_wanted (Some group) ws = of_group group ws

abbrev pub is_to_take : List Made → Option ℕ → Made → Bool
is_to_take nodes None m = true
is_to_take nodes (Some index) m = int_le m.total (slice_index_or nodes index no_made).total

abbrev pub way_back : Made → List Node → Way
way_back m earlier = record { last = m.node; earlier = earlier; total = m.total }
