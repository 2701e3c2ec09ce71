-- The nearest whole number of steps.
use Rattle.std.proofs.Common.{◌≡◌, ℕ, zero, suc, ◌+◌, ◌*◌, ◌/◌, ◌%◌, ◌<◌, ◌≤◌, refl, arith, ℤ, pos, negsuc, neg_ℤ, ◌*ℤ◌, ◌<ℤ◌}
use Rattle.std.specs.Prelude.{unsigned_abs}
use Rattle.std.proofs.Math.Nat.{zero-mul}
use Rattle.std.proofs.lemmas.Int.{ints}
use Rattle.std.proofs.lemmas.Nat.{mul-le, div_below, div-add-mod'}
use Rattle.micro_num.specs.Rounding.{nearest, rounded}
use Rattle.micro_num.proofs.Expansions.{rounded-minus}
use Rattle.font_stock.specs.Steps.{nearest_multiple}

-- a share of a limit is at most the limit
pub share_within : (ratio factor limit : ℕ) → ratio ≤ 1000 → factor ≤ 1000
    → (ratio * factor * limit + 500000) / 1000000 ≤ limit
share_within ratio factor limit few part =
    let product : ratio * factor ≤ 1000000 = mul-le ratio factor 1000 1000 few part in
    let whole : ratio * factor * limit ≤ 1000000 * limit = mul-le (ratio * factor) limit 1000000 limit product (omega arith) in
    omega arith

-- the nearest whole steps of what is within a limit of whole steps are within it
pub steps_within : (share limit step : ℕ) → share ≤ limit → limit % step ≡ 0 → 0 < step
    → (2 * share + step) / (2 * step) * step ≤ limit
steps_within share limit step within whole some =
    let is_whole : limit / step * step + limit % step ≡ limit = div-add-mod' limit step in
    let below : 2 * share + step < (limit / step + 1) * (2 * step) = omega arith in
    let count : (2 * share + step) / (2 * step) < limit / step + 1 = div_below (2 * share + step) (2 * step) (limit / step + 1) (omega arith) below in
    let product = mul-le ((2 * share + step) / (2 * step)) step (limit / step) step (omega arith) (omega arith) in
    omega arith

-- the opposite of a number times another
times_minus : (m l : ℕ) → neg_ℤ (pos m) *ℤ pos l ≡ neg_ℤ (pos (m * l))
times_minus zero l = rw zero-mul refl
times_minus (suc m) l = refl

-- the step at a negative ratio is the opposite of that at its magnitude
pub step_of_negative : (ratio : ℤ) (magnitude factor limit step : ℕ) → ratio <ℤ pos 0 → magnitude ≡ unsigned_abs ratio → 0 < step
    → nearest_multiple (rounded (ratio *ℤ pos factor *ℤ pos limit) (pos 1000000)) (pos step)
    ≡ neg_ℤ (pos (nearest (nearest (magnitude * factor * limit) 1000000) step * step))
step_of_negative (pos r) magnitude factor limit step below size some = absurd (omega (arith, ints))
step_of_negative (negsuc r) magnitude factor limit step below size some =
    rw (
      size,
      times_minus (suc r * factor) limit,
      rounded-minus (suc r * factor * limit) 1000000 (omega arith),
      rounded-minus (nearest (suc r * factor * limit) 1000000) step some,
    ) (times_minus _ _)
