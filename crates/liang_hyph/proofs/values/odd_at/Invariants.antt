use Rattle.std.proofs.Common.{◌≡◌, ℕ, ◌<◌, cond, eqb, take, length, get_or}
use Rattle.std.specs.List.{list_any}
use Rattle.liang_hyph.proofs.values.odd_at.Given as goal

abbrev pub invariant-loop-place : goal.invariant-loop-place
invariant-loop-place l =
    (length l.values ≡ 64) × ((h : ℕ) → h < 64 → get_or l.values h 0 ≡ cond (list_any (λ place. eqb place h) (take l.place-index l.places)) 1 0)
