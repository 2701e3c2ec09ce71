use Rattle.std.proofs.Common.{◌≡◌, ℕ, ◌<◌, ◌≤◌, max, length, get_or}
use Rattle.liang_hyph.specs.Places.{value_at}
use Rattle.liang_hyph.proofs.values.raise.Given as goal

abbrev pub invariant-loop-h : goal.invariant-loop-h
invariant-loop-h l =
    ((h : ℕ) → h < l.h → h < length l.values → get_or l.values h 0 ≡ max (get_or l.initial.values h 0) (value_at l.row l.at h))
    × ((h : ℕ) → l.h ≤ h → get_or l.values h 0 ≡ get_or l.initial.values h 0)
