use Rattle.std.proofs.Common.{◌≡◌, ℕ, ◌<◌, ◌-◌, ◌+◌, length, get_or}
use Rattle.liang_hyph.specs.Greatest.{greatest_below}
use Rattle.liang_hyph.specs.Table.{value_of_part}
use Rattle.liang_hyph.proofs.table.Patterns.values_of_parts.Given as goal

abbrev pub invariant-loop-at : goal.invariant-loop-at
invariant-loop-at l =
    (h : ℕ) → h < 64 → get_or l.values h 0 ≡ greatest_below (λ at. greatest_below (λ count. value_of_part l.self l.word at count h) (length l.word - at + 1)) l.at
