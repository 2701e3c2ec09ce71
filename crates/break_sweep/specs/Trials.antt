-- What comes of a node that is tried at a place, as the array of nodes keeps it.
--     further                the node at the end of a line
--     line_from              the line that is recorded from a node
--     line_tried             the same of a way
use Rattle.std.specs.Prelude.{ℕ, ◌&&◌, ℤ, pos, ◌+ℤ◌, Bool, if◌then◌else◌, [], Option, Some, None}
use Rattle.line_break.specs.declared.node.Way.{Way}
use Rattle.line_break.specs.Pass.{Pass, next_group}
use Rattle.line_break.specs.Ways.{extended, dies, records}
use Rattle.break_sweep.specs.declared.made.Made.{Made}
use Rattle.break_sweep.specs.Made.{way_of}

-- a line to a place that adds so much, from the node that has an index
unfoldable pub further : Pass → ℕ → ℤ → ℕ → Made → Made
further q to added index m = record {
  node = record { place = to; group = next_group q.open_ended m.node.group; class = q.class m.node.place m.node.group to };
  total = m.total +ℤ added;
  before = index;
}

-- The last node of the list is rescued in a final pass where all was quiet and it dies too; else the line is recorded
-- where it is good enough. `last` says that no node is after it.
unfoldable pub line_from : Pass → ℕ → Bool → Bool → ℕ → Made → Option Made
line_from q to quiet last index m =
    if last && q.final && quiet && dies q to m.node
    then Some (further q to (pos 0) index m)
    else (if records q to (way_of [] m) then Some (further q to (q.demerits m.node to) index m) else None)

unfoldable pub line_tried : Pass → ℕ → Bool → Bool → Way → Option Way
line_tried q to quiet last w =
    if last && q.final && quiet && dies q to w.last
    then Some (extended q to (pos 0) w)
    else (if records q to w then Some (extended q to (q.demerits w.last to) w) else None)
