-- All ways to break a paragraph, by the rules of a pass (TeX: The Program, part 38 and section 854).
--     start, extended        the way of no lines, and a way with one more line
--     dies, lives            whether a place ends all lines from a node; whether none between does
--     stands                 whether a way is good enough among those that end in its place and group
--     open_ways              the ways that may go on with a line to a place
--     records                whether the line is good enough to be taken
--     rescued                whether a place is reached only by giving up on that
--     lines_to               the ways that a place adds
--     ways                   all ways to the first places
--     open_to, is_rescued    the open ones among all of them, and whether a place is rescued
use Rattle.std.specs.Prelude.{ℕ, zero, suc, ◌-◌, ◌^◌, ◌==◌, ◌&&◌, ◌||◌, ℤ, pos, ◌+ℤ◌, Bool, true, not, nat_le, int_lt, int_le, if◌then◌else◌, List, [], ◌∷◌, ◌++◌, map}
use Rattle.std.specs.List.{filter, list_all}
use Rattle.std.specs.Ordering.{is_lt}
use Rattle.line_break.specs.declared.node.Node.{Node}
use Rattle.line_break.specs.declared.node.Way.{Way}
use Rattle.line_break.specs.Members.{is_empty}
use Rattle.line_break.specs.Pass.{Pass, group_of_line, next_group, order}

-- The start counts as a break after a decent line.
unfoldable pub start : Pass → Way
start q = record {
  last = record { place = 0; group = group_of_line q.open_ended 1; class = 2 };
  earlier = [];
  total = pos 0;
}

-- the way followed by a line to a place that adds so much
unfoldable pub extended : Pass → ℕ → ℤ → Way → Way
extended q to added w = record {
  last = record { place = to; group = next_group q.open_ended w.last.group; class = q.class w.last.place w.last.group to };
  earlier = w.last ∷ w.earlier;
  total = w.total +ℤ added;
}

-- No line goes from the node past a place that forces a break or makes the line overfull.
unfoldable pub dies : Pass → ℕ → Node → Bool
dies q to x = q.forced to || (q.badness x.place x.group to == 10001)

-- whether no place strictly between the node and `to` ends the lines from it
unfoldable pub lives : Pass → ℕ → Node → Bool
lives q zero x = true
lives q (suc to) x = lives q to x && (nat_le to x.place || not (dies q to x))

abbrev pub same_start : Node → Node → Bool
same_start x y = (x.place == y.place) && (x.group == y.group)

-- whether w ends in another place or group than v, or its total is at most that of v plus the slack
abbrev pub is_good : ℤ → Way → Way → Bool
is_good slack w v = not (same_start v.last w.last) || int_le w.total (v.total +ℤ slack)

-- Among the ways that end in one place and group, those stand whose total is at most the least one plus the slack.
unfoldable pub stands : Pass → List Way → Way → Bool
stands q ws w = list_all (is_good (pos q.slack) w) ws

-- Of the ways to the places before it, those are open to a place that stand and whose node lives.
unfoldable pub open_ways : Pass → ℕ → List Way → List Way
open_ways q to ws = filter (λ w. stands q ws w && lives q to w.last) ws

-- no total reaches this number
abbrev pub awful_bad : ℕ
awful_bad = 2 ^ 30 - 1

unfoldable pub records : Pass → ℕ → Way → Bool
records q to w =
    int_le (pos (q.badness w.last.place w.last.group to)) q.threshold
    && int_lt (w.total +ℤ q.demerits w.last to) (pos awful_bad)

-- whether no way of the list has a node that is later in the order
unfoldable pub is_last : Pass → List Way → Way → Bool
is_last q ws w = list_all (λ v. not (is_lt (order q.open_ended w.last v.last))) ws

abbrev pub all_die : Pass → ℕ → List Way → Bool
all_die q to ws = list_all (λ w. dies q to w.last) ws

-- whether no line is recorded but from the last node
abbrev pub only_last : Pass → ℕ → List Way → Bool
only_last q to ws = list_all (is_last q ws) (filter (records q to) ws)

-- In a final pass, where all nodes that are open to a place die there and no line is recorded but from the last node.
unfoldable pub rescued : Pass → ℕ → List Way → Bool
rescued q to ws = q.final && not (is_empty ws) && all_die q to ws && only_last q to ws

abbrev pub rescued_lines : Pass → ℕ → List Way → List Way
rescued_lines q to ws = map (extended q to (pos 0)) (filter (is_last q ws) ws)

abbrev pub recorded_lines : Pass → ℕ → List Way → List Way
recorded_lines q to ws = map (λ w. extended q to (q.demerits w.last to) w) (filter (records q to) ws)

-- The ways that a place adds to those that are open to it: every recorded line with its demerits. At a rescue they
-- are those from the last node alone, and the line adds nothing, however bad it is.
unfoldable pub lines_to : Pass → ℕ → List Way → List Way
lines_to q to ws = if rescued q to ws then rescued_lines q to ws else recorded_lines q to ws

-- ways to the places before one, and those to it
abbrev pub and_to : Pass → ℕ → List Way → List Way
and_to q to ws = ws ++ lines_to q to (open_ways q to ws)

-- all ways to the start and the first places
unfoldable pub ways : Pass → ℕ → List Way
ways q zero = start q ∷ []
ways q (suc place) = and_to q (suc place) (ways q place)

-- the ways that are open to a place, among all ways to the places before it
unfoldable pub open_to : Pass → ℕ → List Way
open_to q zero = []
open_to q (suc place) = open_ways q (suc place) (ways q place)

unfoldable pub is_rescued : Pass → ℕ → Bool
is_rescued q to = rescued q to (open_to q to)
