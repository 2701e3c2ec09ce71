-- What is asked of a pass that is swept.
--     IsAmount               demerits that a line may have
use Rattle.std.specs.Prelude.{◌^◌, ℤ, pos, neg_ℤ, ◌≤ℤ◌}

-- Demerits are within 2^41, so that totals of 2^17 lines fit with room to spare.
pub record IsAmount (d : ℤ) : Type 0 where
  pub low : neg_ℤ (pos (2 ^ 41)) ≤ℤ d
  pub high : d ≤ℤ pos (2 ^ 41)
