-- How widths grow with a font's expansion.
--     expanded-fits             a width that fits at the greatest step fits at every step down to -1000
--     expanded-none             a font that isn't expanded has its own widths
--     thousandths_of-within     at most 1000 thousandths of a number are no larger than it
--     width_at-small            a width at a step is within ±2^31 sp
use Rattle.std.proofs.Common.{◌≡◌, ℕ, zero, suc, ◌+◌, ◌*◌, ◌/◌, ◌<◌, ◌≤◌, ◌^◌, refl, ap, arith, ◌∙◌, ℤ, pos, negsuc, neg_ℤ, ◌+ℤ◌, ◌≤ℤ◌, ◌<ℤ◌}
use Rattle.std.specs.Prelude.{unsigned_abs}
use Rattle.std.proofs.lemmas.Int.{ints, unsigned_abs-mul}
use Rattle.std.proofs.lemmas.Nat.{mul-le}
use Rattle.std.proofs.Math.Nat.{div-eq_of_lt}
use Rattle.micro_num.specs.Rounding.{nearest, rounded}
use Rattle.micro_num.specs.Scaling.{IsFixWord, IsFontSize}
use Rattle.micro_num.proofs.Floors.{scaled-small}
use Rattle.micro_num.proofs.Signs.{minus_abs}
use Rattle.micro_num.specs.Expansion.{thousandths_of, expanded, width_at}

-- a number that isn't positive over a positive one
pub rounded-minus : (m d : ℕ) → 0 < d → rounded (neg_ℤ (pos m)) (pos d) ≡ neg_ℤ (pos (nearest m d))
rounded-minus zero d some =
    let none : (2 * 0 + d) / (2 * d) ≡ 0 = div-eq_of_lt (omega arith) in
    rw none refl
rounded-minus (suc m) d some = refl

pub thousandths_of-pos : (a k : ℕ) → thousandths_of (pos a) (pos k) ≡ pos (nearest (a * k) 1000)
unfolding thousandths_of
thousandths_of-pos a k = refl

pub thousandths_of-negsuc : (a k : ℕ) → thousandths_of (negsuc a) (pos k) ≡ neg_ℤ (pos (nearest (suc a * k) 1000))
unfolding thousandths_of
thousandths_of-negsuc a k = rounded-minus (suc a * k) 1000 (omega arith)

-- a thousand thousandths of a number are that number
pub thousandths_of-whole : (w : ℤ) → thousandths_of w (pos 1000) ≡ w
thousandths_of-whole (pos a) =
    let whole : nearest (a * 1000) 1000 ≡ a = omega arith in
    thousandths_of-pos a 1000 ∙ ap pos whole
thousandths_of-whole (negsuc a) =
    let whole : nearest (suc a * 1000) 1000 ≡ suc a = omega arith in
    thousandths_of-negsuc a 1000 ∙ ap (λ n. neg_ℤ (pos n)) whole

-- more thousandths are a number that is at least as large
pub nearest_grows : (a k l : ℕ) → k ≤ l → nearest (a * k) 1000 ≤ nearest (a * l) 1000
nearest_grows a k l more = let product : a * k ≤ a * l = mul-le a k a l (omega arith) more in omega arith

-- if some thousandths of a fix_word are one, then fewer are one too
pub thousandths_of-fits : (w : ℤ) (k l : ℕ) → k ≤ l → IsFixWord (thousandths_of w (pos l)) → IsFixWord (thousandths_of w (pos k))
thousandths_of-fits (pos a) k l more fits =
    let below : pos (nearest (a * l) 1000) <ℤ pos (2 ^ 24) = rw thousandths_of-pos at fits.high in
    let grows = nearest_grows a k l more in
    rw thousandths_of-pos (record { low = omega (arith, ints); high = omega (arith, ints) })
thousandths_of-fits (negsuc a) k l more fits =
    let above : neg_ℤ (pos (2 ^ 24)) ≤ℤ neg_ℤ (pos (nearest (suc a * l) 1000)) = rw thousandths_of-negsuc at fits.low in
    let grows = nearest_grows (suc a) k l more in
    rw thousandths_of-negsuc (record { low = omega (arith, ints); high = omega (arith, ints) })

natural : (z : ℤ) → pos 0 ≤ℤ z → pos (unsigned_abs z) ≡ z
natural (pos n) above = refl
natural (negsuc n) above = absurd (omega (arith, ints))

-- a width that fits at the greatest step fits at every step down to -1000
pub expanded-fits : (w step limit : ℤ) → neg_ℤ (pos 1000) ≤ℤ step → step ≤ℤ limit
    → IsFixWord (expanded w limit) → IsFixWord (expanded w step)
unfolding expanded
expanded-fits w step limit least below fits =
    let k : ℕ = unsigned_abs (pos 1000 +ℤ step) in
    let l : ℕ = unsigned_abs (pos 1000 +ℤ limit) in
    let k_is : pos (unsigned_abs (pos 1000 +ℤ step)) ≡ pos 1000 +ℤ step = natural (pos 1000 +ℤ step) (omega (arith, ints)) in
    let l_is : pos (unsigned_abs (pos 1000 +ℤ limit)) ≡ pos 1000 +ℤ limit = natural (pos 1000 +ℤ limit) (omega (arith, ints)) in
    let more : unsigned_abs (pos 1000 +ℤ step) ≤ unsigned_abs (pos 1000 +ℤ limit) = omega (arith, ints) in
    rw (← k_is) (thousandths_of-fits w _ _ more (rw (← l_is) at fits))

-- a font that isn't expanded has its own widths
pub expanded-none : (w : ℤ) → expanded w (pos 0) ≡ w
unfolding expanded
expanded-none w = thousandths_of-whole w

-- the rounded thousandths of a number are those of its magnitude
abs_of_rounded : (m : ℤ) → unsigned_abs (rounded m (pos 1000)) ≡ nearest (unsigned_abs m) 1000
abs_of_rounded (pos m) = refl
abs_of_rounded (negsuc m) = minus_abs (nearest (suc m) 1000)

-- at most a thousand thousandths of a number are no larger than it
pub thousandths_of-within : (n k : ℤ) → unsigned_abs k ≤ 1000 → unsigned_abs (thousandths_of n k) ≤ unsigned_abs n
unfolding thousandths_of
thousandths_of-within n k few =
    let grows = nearest_grows (unsigned_abs n) (unsigned_abs k) 1000 few in
    let whole : nearest (unsigned_abs n * 1000) 1000 ≡ unsigned_abs n = omega arith in
    rw (abs_of_rounded, unsigned_abs-mul) (omega (arith, grows, whole))

-- a font's own widths, and those at a step, are within ±2^31 sp at a size of a font
pub width_at-small : (w step z : ℤ) → IsFixWord (expanded w step) → IsFontSize z → unsigned_abs (width_at w step z) ≤ 2147483648
unfolding width_at
width_at-small w step z fits size = scaled-small (expanded w step) z fits size
