-- What the program that lists ways speaks of.
--     first_of_ended, is_better, better_of    the first of some ways to the end, found from the last of them back
--     is_small, IsNear                        tables and ways whose numbers fit
use Rattle.std.specs.Prelude.{ℕ, ◌^◌, ◌<◌, ◌==◌, ◌&&◌, ℤ, pos, neg_ℤ, ◌≤ℤ◌, Bool, true, not, nat_le, int_le, if◌then◌else◌, List, length, Option, Some, None}
use Rattle.std.specs.List.{filter, list_all}
use Rattle.std.specs.Ordering.{is_lt}
use Rattle.line_break.specs.declared.node.Way.{Way}
use Rattle.line_break.specs.declared.table.Table.{Table}
use Rattle.line_break.specs.Members.{first_by}
use Rattle.line_break.specs.Pass.{Pass}
use Rattle.line_break.specs.Best.{preference, end_of}

-- the first by preference of those ways of a list that reach the end
abbrev pub first_of_ended : Pass → List Way → Option Way
first_of_ended q ws = first_by (preference q.open_ended) (filter (λ w. w.last.place == end_of q) ws)

-- whether a way comes first of the best so far and itself
abbrev pub is_better : Option ℕ → Option Way → Way → Bool
is_better ended None w = true
is_better ended (Some b) w = not (is_lt (preference ended b w))

-- the better one of the best so far and a way, where that reaches the end
abbrev pub better_of : Option ℕ → ℕ → Option Way → Way → Option Way
better_of ended end best w = if (w.last.place == end) && is_better ended best w then Some w else best

-- The demerits of each line and adjdemerits are within 2^40, and there are at most 2^16 places.
abbrev pub is_small_amount : ℤ → Bool
is_small_amount d = int_le (neg_ℤ (pos (2 ^ 40))) d && int_le d (pos (2 ^ 40))

abbrev pub is_small : Table → Bool
is_small t =
    nat_le (length t.legal) (2 ^ 16) && is_small_amount t.adjdemerits && list_all (λ l. is_small_amount l.demerits) t.lines

-- what totals and groups of the ways of such a table keep to
pub record IsNear (w : Way) : Type 0 where
  pub low : neg_ℤ (pos (2 ^ 60)) ≤ℤ w.total
  pub high : w.total ≤ℤ pos (2 ^ 30)
  pub group : w.last.group < 2 ^ 31
