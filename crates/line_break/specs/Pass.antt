-- A pass of the line breaker: what it knows of lines, the groups of line numbers and the order of nodes.
--     Pass                   the data of one pass over the legal places of a list
--     group_of_line          the group of a line number
--     next_group             the group of the line after one of a group
--     order                  the order of nodes in the list of active nodes
use Rattle.std.specs.Prelude.{ℕ, ◌+◌, ◌==◌, min, ℤ, pos, neg_ℤ, Bool, false, List, Option, Some, None, if◌then◌else◌}
use Rattle.std.specs.declared.cmp.Ordering.{Ordering}
use Rattle.std.specs.Ordering.{nat_cmp, int_cmp, on, then_cmp}
use Rattle.line_break.specs.declared.node.Node.{Node}

-- Places are numbers: 0 is the start, and k is the k-th legal place. A line goes from one place to a later one and
-- belongs to a group of line numbers, since lines of different groups may have different widths.
pub record Pass : Type 0 where
  -- what each legal place is called; the last one is the end
  pub legal : List ℕ
  -- whether a place forces a break
  pub forced : ℕ → Bool
  -- the badness of the line from a place, of a group, to a place: from 0 to 10000, and 10001 where it is overfull
  pub badness : ℕ → ℕ → ℕ → ℕ
  -- and its class
  pub class : ℕ → ℕ → ℕ → ℕ
  -- the demerits of the line from a node to a place; the node's class is that of the line before
  pub demerits : Node → ℕ → ℤ
  -- the greatest badness that a line may have
  pub threshold : ℤ
  -- the absolute value of adjdemerits
  pub slack : ℕ
  -- whether this is the last pass that is tried
  pub final : Bool
  -- the group that all later lines belong to, where there is one
  pub open_ended : Option ℕ

-- Each line is a group of its own, but from the open-ended group on.
abbrev pub group_of_line : Option ℕ → ℕ → ℕ
group_of_line None line = line
group_of_line (Some last) line = min line last

-- The open-ended group is its own next one.
abbrev pub next_group : Option ℕ → ℕ → ℕ
next_group ended group = group_of_line ended (group + 1)

abbrev pub is_open_ended : Option ℕ → ℕ → Bool
is_open_ended None group = false
is_open_ended (Some last) group = group == last

-- earlier places are lower in the open-ended group, and higher in every other
abbrev pub rank_of_place : Option ℕ → Node → ℤ
rank_of_place ended x = if is_open_ended ended x.group then pos x.place else neg_ℤ (pos x.place)

abbrev pub order_of_places : Option ℕ → ℕ → ℕ → ℕ → Ordering
order_of_places ended group x y = if is_open_ended ended group then nat_cmp x y else nat_cmp y x

-- By group; then by place, ascending in the open-ended group and descending in every other; then by class.
unfoldable pub order : Option ℕ → Node → Node → Ordering
order ended = then_cmp (on (λ x. x.group) nat_cmp) (then_cmp (on (rank_of_place ended) int_cmp) (on (λ x. x.class) nat_cmp))
