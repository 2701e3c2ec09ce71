-- A fix_word of a font at a size (TeX: The Program, sections 568, 571 and 572).
use Rattle.std.specs.Prelude.{◌≡◌, refl, ℕ, zero, suc, ◌-◌, ◌*◌, ◌/◌, ◌^◌, ◌<◌, ◌≤◌, Bool, true, false, nat_lt, ℤ, pos, neg_ℤ, ◌*ℤ◌, ◌≤ℤ◌, ◌<ℤ◌, unsigned_abs}
use Rattle.std.specs.Int.{int_div_euclid}

-- w is a fix_word, in units of 2^-20 of a size, whose first byte is 0 or 255: from -16 to 16 sizes
-- (TFM description)
pub record IsFixWord (w : ℤ) : Type 0 where
  pub low : neg_ℤ (pos (2 ^ 24)) ≤ℤ w
  pub high : w <ℤ pos (2 ^ 24)

-- z is a size of a font in sp, from 1 to 2^27 - 1
pub record IsFontSize (z : ℤ) : Type 0 where
  pub low : pos 1 ≤ℤ z
  pub high : z <ℤ pos (2 ^ 27)

-- k is the least number of halvings that brings z below 2^23
pub record IsLeastHalving (z k : ℕ) : Type 0 where
  pub enough : z / 2 ^ k < 2 ^ 23
  pub least : (fewer : ℕ) → z / 2 ^ fewer < 2 ^ 23 → k ≤ fewer

-- how often z is halved in at most so many halvings: not at all once it is below 2^23
unfoldable pub halvings_within : Bool → ℕ → ℕ → ℕ
halvings_within true most z = 0
halvings_within false zero z = 0
halvings_within false (suc most) z = suc (halvings_within (nat_lt (z / 2) (2 ^ 23)) most (z / 2))

-- how often a size is halved: the least k such that z div 2^k is below 2^23 (proofs/Halvings.antt shows that it
-- is the least). z halvings are enough for every z
unfoldable pub halvings : ℕ → ℕ
halvings z = halvings_within (nat_lt z (2 ^ 23)) z z

-- a size as it enters the product, with the bits gone that the halvings drop
abbrev pub kept_size : ℕ → ℕ
kept_size z = z / 2 ^ halvings z * 2 ^ halvings z

-- the fix_word w at the size z: their product over 2^20, the greatest whole number that isn't above it
unfoldable pub scaled : ℤ → ℤ → ℤ
scaled w z = int_div_euclid (w *ℤ pos (kept_size (unsigned_abs z))) (pos (2 ^ 20))

-- half a design unit at 10 pt, and the same a step of 20 and of -20 thousandths wider
pub half_at_ten_points : scaled (pos 524288) (pos 655360) ≡ pos 327680
unfolding scaled halvings halvings_within
half_at_ten_points = refl

pub wider_at_ten_points : scaled (pos 534774) (pos 655360) ≡ pos 334233
unfolding scaled halvings halvings_within
wider_at_ten_points = refl

pub narrower_at_ten_points : scaled (pos 513802) (pos 655360) ≡ pos 321126
unfolding scaled halvings halvings_within
narrower_at_ten_points = refl

-- the least answer of all
pub least_scaled : scaled (neg_ℤ (pos (2 ^ 24))) (pos (2 ^ 27 - 1)) ≡ neg_ℤ (pos 2147483392)
unfolding scaled halvings halvings_within
least_scaled = refl
