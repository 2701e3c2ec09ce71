-- A scaled fix_word, by the sign of the fix_word, and how large it can be.
use Rattle.std.proofs.Common.{◌≡◌, ℕ, zero, suc, ◌+◌, ◌*◌, ◌/◌, ◌%◌, ◌<◌, ◌≤◌, ◌^◌, min, refl, ap, arith, ℤ, pos, negsuc, neg_ℤ, ◌≤ℤ◌, ◌<ℤ◌}
use Rattle.std.specs.Prelude.{unsigned_abs}
use Rattle.std.specs.Int.{int_div_euclid, div_ceil}
use Rattle.std.proofs.lemmas.Int.{ints}
use Rattle.std.proofs.Math.Nat.{div-mul-le_self}
use Rattle.micro_num.specs.Scaling.{IsFixWord, IsFontSize, halvings, kept_size, scaled}
use Rattle.micro_num.proofs.Signs.{minus_abs}
use Rattle.std.proofs.lemmas.Nat.{mul-le}

-- the floor of -m over 2^20
floor_of_minus : (m : ℕ) → int_div_euclid (neg_ℤ (pos m)) (pos 1048576) ≡ neg_ℤ (pos (div_ceil m 1048576))
floor_of_minus zero = refl
floor_of_minus (suc n) =
    let next : suc (n / 1048576) ≡ suc n / 1048576 + min 1 (suc n % 1048576) = omega arith in
    ap (λ k. neg_ℤ (pos k)) next

-- a size loses its low bits alone
kept_below : (z : ℕ) → kept_size z ≤ z
kept_below z = div-mul-le_self z (2 ^ halvings z)

-- what a fix_word is at a size, by the sign of the fix_word
pub scaled-negative : (w z : ℤ) (m k : ℕ) → w <ℤ pos 0 → m ≡ unsigned_abs w → k ≡ kept_size (unsigned_abs z)
    → scaled w z ≡ neg_ℤ (pos (div_ceil (m * k) 1048576))
unfolding scaled
scaled-negative (pos n) z m k below size kept = absurd (omega (arith, ints))
scaled-negative (negsuc n) z m k below size kept = rw (size, kept) (floor_of_minus (suc n * kept_size (unsigned_abs z)))

pub scaled-positive : (w z : ℤ) (m k : ℕ) → pos 0 ≤ℤ w → m ≡ unsigned_abs w → k ≡ kept_size (unsigned_abs z)
    → scaled w z ≡ pos (m * k / 1048576)
unfolding scaled
scaled-positive (pos n) z m k above size kept = rw (size, kept) refl
scaled-positive (negsuc n) z m k above size kept = absurd (omega (arith, ints))

-- the product of a fix_word and a size fits, rounded up and down
pub quotient_bound : (m k : ℕ) → m ≤ 16777216 → k ≤ 134217712 → div_ceil (m * k) 1048576 ≤ 2147483392
quotient_bound m k p q = omega (arith, mul-le m k 16777216 134217712 p q)

pub quotient_cut_bound : (m k : ℕ) → m ≤ 16777215 → k ≤ 134217712 → m * k / 1048576 < 2147483648
quotient_cut_bound m k p q = omega (arith, mul-le m k 16777215 134217712 p q)

pub size_of_negative : (w : ℤ) → neg_ℤ (pos 16777216) ≤ℤ w → w <ℤ pos 0 → unsigned_abs w ≤ 16777216
size_of_negative (pos n) low below = absurd (omega (arith, ints))
size_of_negative (negsuc n) low below = omega (arith, ints)

pub size_of_positive : (w : ℤ) → w <ℤ pos 16777216 → pos 0 ≤ℤ w → unsigned_abs w ≤ 16777215
size_of_positive (pos n) high above = omega (arith, ints)
size_of_positive (negsuc n) high above = absurd (omega (arith, ints))

-- a fix_word at a size of a font is within ±2^31 sp
pub scaled-small : (w z : ℤ) → IsFixWord w → IsFontSize z → unsigned_abs (scaled w z) ≤ 2147483648
scaled-small (pos n) z fits size =
    let kept = kept_below (unsigned_abs z) in
    let some : unsigned_abs z ≤ 134217728 = omega (arith, ints, size.low, size.high) in
    let product : n * kept_size (unsigned_abs z) ≤ 2251799813685248 = mul-le n (kept_size (unsigned_abs z)) 16777216 134217728 (omega (arith, ints, fits.high)) (omega arith) in
    rw (scaled-positive (pos n) z n (kept_size (unsigned_abs z)) (omega (arith, ints)) refl refl) (omega arith)
scaled-small (negsuc n) z fits size =
    let kept = kept_below (unsigned_abs z) in
    let some : unsigned_abs z ≤ 134217728 = omega (arith, ints, size.low, size.high) in
    let product : suc n * kept_size (unsigned_abs z) ≤ 2251799813685248 = mul-le (suc n) (kept_size (unsigned_abs z)) 16777216 134217728 (omega (arith, ints, fits.low)) (omega arith) in
    rw (scaled-negative (negsuc n) z (suc n) (kept_size (unsigned_abs z)) (omega (arith, ints)) refl refl, minus_abs) (omega arith)
