use Rattle.std.proofs.Common.{◌≡◌, ℕ, ◌<◌, max, get_or}
use Rattle.liang_hyph.specs.Greatest.{greatest_below}
use Rattle.liang_hyph.specs.Table.{value_of_part}
use Rattle.liang_hyph.proofs.table.Patterns.raise_parts.Given as goal

abbrev pub invariant-loop-count : goal.invariant-loop-count
invariant-loop-count l =
    (h : ℕ) → h < 64 → get_or l.values h 0 ≡ max (get_or l.initial.values h 0) (greatest_below (λ count. value_of_part l.self l.word l.at count h) l.count)
