-- How large a badness can be.
--     badness_of-capped     at most 10000
use Rattle.std.proofs.Common.{ℕ, zero, suc, ◌+◌, ◌*◌, ◌/◌, ◌≤◌, arith, ℤ, pos, negsuc}
use Rattle.std.proofs.lemmas.Bool.{cases_lt}
use Rattle.std.proofs.lemmas.Bool.Decides.{nat_tests}
use Rattle.std.proofs.lemmas.Nat.{mul-le}
use Rattle.std.proofs.Common.{inl, inr}
use Rattle.micro_num.specs.Badness.{badness_of, badness_of_ratio, stretch_ratio}

-- the rounded cube of a ratio up to 1290
cube_capped : (r : ℕ) → r ≤ 1290 → (r * r * r + 131072) / 262144 ≤ 10000
cube_capped r small =
    let square : r * r ≤ 1664100 = mul-le r r 1290 1290 small small in
    let cube : r * r * r ≤ 2146689000 = mul-le (r * r) r 1664100 1290 square small in
    omega arith

pub badness_of_ratio-capped : (r : ℕ) → badness_of_ratio r ≤ 10000
badness_of_ratio-capped r =
    elim (cases_lt 1290 r) [
      | inl past ↦ grind (arith, nat_tests)
      | inr small ↦ (let cube = cube_capped r small in grind (arith, nat_tests))
    ]

pub badness_of-capped : (t s : ℤ) → badness_of t s ≤ 10000
unfolding badness_of
badness_of-capped (pos zero) s = omega arith
badness_of-capped (pos (suc t)) (pos zero) = omega arith
badness_of-capped (pos (suc t)) (pos (suc s)) = badness_of_ratio-capped (stretch_ratio (suc t) (suc s))
badness_of-capped (pos (suc t)) (negsuc s) = omega arith
badness_of-capped (negsuc t) (pos zero) = omega arith
badness_of-capped (negsuc t) (pos (suc s)) = badness_of_ratio-capped (stretch_ratio (suc t) (suc s))
badness_of-capped (negsuc t) (negsuc s) = omega arith
