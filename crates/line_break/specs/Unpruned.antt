-- All ways, where none is left out for its total.
--     unpruned               to the first places
--     unpruned_to_the_end    those that reach the end
--     best_unpruned          the best of them
use Rattle.std.specs.Prelude.{ℕ, zero, suc, ◌==◌, ◌&&◌, List, [], ◌∷◌, ◌++◌, map, Option}
use Rattle.std.specs.List.{filter}
use Rattle.line_break.specs.declared.node.Way.{Way}
use Rattle.line_break.specs.Members.{first_by}
use Rattle.line_break.specs.Pass.{Pass}
use Rattle.line_break.specs.Ways.{start, extended, lives, records}
use Rattle.line_break.specs.Best.{preference, end_of}

-- Every way goes on with every line that no place between ends, whose badness the pass admits and by which the total
-- stays below the bound.
unfoldable pub unpruned : Pass → ℕ → List Way
unpruned q zero = start q ∷ []
unpruned q (suc place) =
    unpruned q place
    ++ map (λ w. extended q (suc place) (q.demerits w.last (suc place)) w)
    (filter (λ w. lives q (suc place) w.last && records q (suc place) w) (unpruned q place))

unfoldable pub unpruned_to_the_end : Pass → List Way
unpruned_to_the_end q = filter (λ w. w.last.place == end_of q) (unpruned q (end_of q))

unfoldable pub best_unpruned : Pass → Option Way
best_unpruned q = first_by (preference q.open_ended) (unpruned_to_the_end q)
