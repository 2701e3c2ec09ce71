-- Quotients of signed numbers by the quotients of their magnitudes, and how the code takes a number's opposite.
use Rattle.std.proofs.Common.{◌≡◌, ℕ, zero, suc, ◌+◌, ◌*◌, ◌/◌, ◌<◌, ◌≤◌, ◌^◌, refl, arith, ℤ, pos, negsuc, neg_ℤ, ◌*ℤ◌, ◌-ℤ◌, ◌≤ℤ◌, ◌<ℤ◌, FitsSigned, to_z, of_z, false}
use Rattle.std.proofs.Math.Nat.{zero-div, div-le_self}
use Rattle.std.specs.Prelude.{unsigned_abs, int_div, int_lt}
use Rattle.std.specs.Int.{Width}
use mathlib.Core.Bool.{beq}
use Rattle.std.proofs.lemmas.Bool.Decides.{nat_tests}
use mir.Val.{hbits}
use Rattle.std.proofs.lemmas.Int.{ints, to_z-of_z, to_z_pos, fits_signed_from_abs}
use Rattle.std.proofs.lemmas.Nat.{mul-le}
use Rattle.micro_num.specs.Rounding.{nearest, rounded, truncated}

pub minus_abs : (q : ℕ) → unsigned_abs (neg_ℤ (pos q)) ≡ q
minus_abs zero = refl
minus_abs (suc q) = refl

minus_from_zero : (q : ℕ) → pos 0 -ℤ pos q ≡ neg_ℤ (pos q)
minus_from_zero q = omega (arith, ints)

-- what `-q` gives of a magnitude that was cast
pub minus_stored : (w : Width) (q : ℕ) → q < 2 ^ hbits w → to_z w (of_z w (pos 0 -ℤ to_z w q)) ≡ neg_ℤ (pos q)
minus_stored w q small =
    let is_pos : to_z w q ≡ pos q = to_z_pos w q small in
    let fits : FitsSigned w (neg_ℤ (pos q)) = fits_signed_from_abs w (neg_ℤ (pos q)) (rw minus_abs small) in
    rw (is_pos, minus_from_zero) (to_z-of_z w (neg_ℤ (pos q)) fits)

-- a negative number over a positive one
int_div-minus : (m d : ℕ) → int_div (neg_ℤ (pos m)) (pos d) ≡ neg_ℤ (pos (m / d))
int_div-minus zero d = rw zero-div refl
int_div-minus (suc m) d = refl

-- the product of a negative and a natural number over a positive one, cut
pub truncated-negative : (x n d : ℤ) (m : ℕ) → x <ℤ pos 0 → pos 0 ≤ℤ n → pos 1 ≤ℤ d → m ≡ unsigned_abs x
    → truncated (x *ℤ n) d ≡ neg_ℤ (pos (m * unsigned_abs n / unsigned_abs d))
truncated-negative (pos x) n d m below n_sign d_sign size = absurd (omega (arith, ints))
truncated-negative (negsuc x) (negsuc n) d m below n_sign d_sign size = absurd (omega (arith, ints))
truncated-negative (negsuc x) (pos n) (negsuc d) m below n_sign d_sign size = absurd (omega (arith, ints))
truncated-negative (negsuc x) (pos n) (pos d) m below n_sign d_sign size = rw size (int_div-minus (suc x * n) d)

-- a product of two magnitudes up to 2^31 over a third number
pub quotient_fits : (m : ℕ) (n : ℤ) (d : ℕ) → m ≤ 2147483648 → pos 0 ≤ℤ n → n ≤ℤ pos 2147483648 → m * unsigned_abs n / d < 2 ^ 63
quotient_fits m (negsuc n) d m_size n_sign n_size = absurd (omega (arith, ints))
quotient_fits m (pos n) d m_size n_sign n_size =
    let n_small : n ≤ 2147483648 = omega (arith, ints) in
    let product : m * n ≤ 4611686018427387904 = mul-le m n 2147483648 2147483648 m_size n_small in
    let quotient : m * n / d ≤ m * n = div-le_self (m * n) d in
    omega arith

-- the rounded quotient of two numbers of which one alone is negative
pub rounded-unlike : (n d : ℤ) → beq (int_lt n (pos 0)) (int_lt d (pos 0)) ≡ false
    → rounded n d ≡ neg_ℤ (pos (nearest (unsigned_abs n) (unsigned_abs d)))
rounded-unlike (pos n) (pos d) unlike = absurd (grind (arith, nat_tests))
rounded-unlike (pos n) (negsuc d) unlike = refl
rounded-unlike (negsuc n) (pos d) unlike = refl
rounded-unlike (negsuc n) (negsuc d) unlike = cc

-- it fits, since a quotient is at most what is divided
pub nearest_fits : (n d : ℕ) → n ≤ 2 ^ 120 → d ≤ 2 ^ 120 → nearest n d < 2 ^ 127
nearest_fits n d n_size d_size =
    let quotient : (2 * n + d) / (2 * d) ≤ 2 * n + d = div-le_self (2 * n + d) (2 * d) in
    omega arith
