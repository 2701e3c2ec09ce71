-- Which way is taken.
--     preference             the order of ways at one place, the best first
--     to_the_end             the ways that reach the end
--     best, best_of_group    the best of them, and the best of those of one group
use Rattle.std.specs.Prelude.{ℕ, ◌==◌, List, length, Option}
use Rattle.std.specs.List.{filter}
use Rattle.std.specs.declared.cmp.Ordering.{Ordering}
use Rattle.std.specs.Ordering.{nat_cmp, int_cmp, on, then_cmp, flip_args}
use Rattle.std.specs.Cmp.Lexicographic.{slice_cmp}
use Rattle.line_break.specs.declared.node.Way.{Way}
use Rattle.line_break.specs.Members.{first_by}
use Rattle.line_break.specs.Pass.{Pass, order}
use Rattle.line_break.specs.Ways.{ways}

-- Less demerits are better, then a lower group, then a lower class of the last line; then, going back from the end
-- node by node, the later node in the order where two ways differ first.
unfoldable pub preference : Option ℕ → Way → Way → Ordering
preference ended =
    then_cmp (on (λ w. w.total) int_cmp)
    (then_cmp (on (λ w. w.last.group) nat_cmp)
    (then_cmp (on (λ w. w.last.class) nat_cmp)
    (on (λ w. w.earlier) (slice_cmp (flip_args (order ended))))))

abbrev pub end_of : Pass → ℕ
end_of q = length q.legal

unfoldable pub to_the_end : Pass → List Way
to_the_end q = filter (λ w. w.last.place == end_of q) (ways q (end_of q))

unfoldable pub best : Pass → Option Way
best q = first_by (preference q.open_ended) (to_the_end q)

unfoldable pub best_of_group : Pass → ℕ → Option Way
best_of_group q group = first_by (preference q.open_ended) (filter (λ w. w.last.group == group) (to_the_end q))
