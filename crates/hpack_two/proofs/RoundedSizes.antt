-- How large rounded quotients are, and their signs.
use Rattle.std.proofs.Common.{ℕ, suc, ◌+◌, ◌*◌, ◌≤◌, ◌^◌, arith, ℤ, pos, negsuc, ◌*ℤ◌, ◌≤ℤ◌}
use Rattle.std.specs.Prelude.{unsigned_abs}
use Rattle.std.proofs.Math.Nat.{div-le_self}
use Rattle.std.proofs.lemmas.Int.{ints, unsigned_abs-mul}
use Rattle.std.proofs.lemmas.Nat.{mul-le}
use Rattle.micro_num.specs.Rounding.{nearest, rounded}
use Rattle.micro_num.proofs.Signs.{minus_abs}

pub nearest-small : (n d : ℕ) → nearest n d ≤ 2 * n + d
nearest-small n d = div-le_self (2 * n + d) (2 * d)

pub rounded-small : (n d : ℤ) → unsigned_abs (rounded n d) ≤ 2 * unsigned_abs n + unsigned_abs d
rounded-small (pos n) (pos d) = nearest-small n d
rounded-small (pos n) (negsuc d) = rw minus_abs (nearest-small n (suc d))
rounded-small (negsuc n) (pos d) = rw minus_abs (nearest-small (suc n) d)
rounded-small (negsuc n) (negsuc d) = nearest-small (suc n) (suc d)

pub rounded-above : (n d : ℤ) → pos 0 ≤ℤ n → pos 0 ≤ℤ d → pos 0 ≤ℤ rounded n d
rounded-above (pos n) (pos d) n_sign d_sign = omega (arith, ints)
rounded-above (pos n) (negsuc d) n_sign d_sign = absurd (omega (arith, ints))
rounded-above (negsuc n) d n_sign d_sign = absurd (omega (arith, ints))

pub product-small : (x y : ℤ) → unsigned_abs x ≤ 2 ^ 60 → unsigned_abs y ≤ 2 ^ 60 → unsigned_abs (x *ℤ y) ≤ 2 ^ 120
product-small x y first second = rw unsigned_abs-mul (mul-le (unsigned_abs x) (unsigned_abs y) (2 ^ 60) (2 ^ 60) first second)
