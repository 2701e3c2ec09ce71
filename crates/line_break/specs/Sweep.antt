-- The same by a list of active nodes that is carried from place to place (TeX: The Program, parts 38 and 39).
-- An active node is kept as the one way that it stands for.
--     tried                  the lines to a place, as the nodes are tried in order
--     kept                   of the lines to a place the best of each group and class
--     after_place            the list after a place: the nodes that live on, and the new ones in their places
--     active                 the list before a place
use Rattle.std.specs.Prelude.{ℕ, zero, suc, ◌-◌, ◌&&◌, pos, Bool, true, false, not, int_le, if◌then◌else◌, List, [], ◌∷◌, Option}
use Rattle.std.specs.List.{filter, fold}
use Rattle.std.specs.Ordering.{int_cmp, on, match_ordering}
use Rattle.line_break.specs.declared.node.Way.{Way}
use Rattle.line_break.specs.Members.{is_empty, first_by}
use Rattle.line_break.specs.Pass.{Pass, order}
use Rattle.line_break.specs.Ways.{start, extended, dies, stands, records, awful_bad}

-- Each node is tried in turn. `quiet` says that all nodes before it died here and none of their lines was recorded.
-- The last node is rescued in a final pass where it dies too and all was quiet; any other line is recorded where it is
-- good enough.
unfoldable pub tried : Pass → ℕ → Bool → List Way → List Way
tried q to quiet [] = []
tried q to quiet (w ∷ ws) =
    if is_empty ws && q.final && quiet && dies q to w.last
    then extended q to (pos 0) w ∷ []
    else (if records q to w
    then extended q to (q.demerits w.last to) w ∷ tried q to false ws
    else tried q to (quiet && dies q to w.last) ws)

-- Puts a way into a list in the order of nodes. At its own node it takes the place of a way with the same or a higher total.
unfoldable pub put : Pass → List Way → Way → List Way
put q [] w = w ∷ []
put q (v ∷ vs) w =
    match_ordering (order q.open_ended w.last v.last)
    (w ∷ v ∷ vs)
    ((if int_le w.total v.total then w else v) ∷ vs)
    (v ∷ put q vs w)

unfoldable pub kept : Pass → List Way → List Way
kept q lines = fold (put q) [] lines

-- A node is made of what was kept where it stands and its total is below the bound.
unfoldable pub new_nodes : Pass → List Way → List Way
new_nodes q lines = filter (λ w. stands q lines w && int_le w.total (pos (awful_bad - 1))) lines

unfoldable pub after_place : Pass → ℕ → List Way → List Way
after_place q to nodes =
    fold (put q) (filter (λ w. not (dies q to w.last)) nodes) (new_nodes q (kept q (tried q to true nodes)))

-- the active nodes before the place after `place`
unfoldable pub active : Pass → ℕ → List Way
active q zero = start q ∷ []
active q (suc place) = after_place q (suc place) (active q place)

-- the first node of least total
unfoldable pub first_of_least : List Way → Option Way
first_of_least nodes = first_by (on (λ w. w.total) int_cmp) nodes
