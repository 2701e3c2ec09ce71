-- The nodes of a way, counted from the start.
--     node_at                the node at the end of a line of a way
use Rattle.std.specs.Prelude.{ℕ, ◌+◌, ◌-◌, ◌==◌, if◌then◌else◌, length, slice_index_or}
use Rattle.line_break.specs.declared.node.Node.{Node}
use Rattle.line_break.specs.declared.node.Way.{Way}

-- the node at the end of a line of a way, whose lines are counted from 0
abbrev pub node_at : Way → ℕ → Node
node_at w line =
    if line + 1 == length w.earlier then w.last
    else slice_index_or w.earlier (length w.earlier - 2 - line) w.last
