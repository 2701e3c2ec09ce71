-- Signed numbers as their bits hold them.
--     zero-stored, some-stored    which bits are 0
--     sum-stored                  a length with a scaled number added
use Rattle.std.proofs.Common.{◌≡◌, ◌≢◌, ◌≤◌, ◌<◌, ◌^◌, ap, sym, ◌∙◌, arith, ℤ, pos, negsuc, ◌+ℤ◌, w32, w64, FitsSigned, to_z, of_z}
use Rattle.std.specs.Prelude.{unsigned_abs}
use Rattle.std.proofs.Math.Facts.{sfits_widen}
use Rattle.std.proofs.lemmas.Int.{ints, to_z-of_z, fits_signed_from_abs}

pub zero-stored : (z : ℤ) → FitsSigned w32 z → of_z w32 z ≡ 0 → z ≡ pos 0
zero-stored z fits is = sym (to_z-of_z w32 z fits) ∙ ap (to_z w32) is

pub some-stored : (z : ℤ) → (of_z w32 z ≡ 0 → ⊥) → z ≢ pos 0
some-stored z some is = some (ap (of_z w32) is)

pub size-of_fits : (z : ℤ) → FitsSigned w32 z → unsigned_abs z ≤ 2 ^ 31
size-of_fits (pos n) fits = let size : n < 2 ^ 31 = fits.sfits in omega (arith, size)
size-of_fits (negsuc n) fits = let size : n < 2 ^ 31 = fits.sfits in omega (arith, size)

pub sum-stored : (a b : ℤ) → FitsSigned w64 a → FitsSigned w32 b → unsigned_abs a ≤ 2 ^ 60
    → to_z w64 (of_z w64 (to_z w64 (of_z w64 a) +ℤ to_z w64 (of_z w64 (to_z w32 (of_z w32 b))))) ≡ a +ℤ b
sum-stored a b a_fits b_fits small =
    let b_wide : FitsSigned w64 b = sfits_widen tt b_fits in
    let sum_fits : FitsSigned w64 (a +ℤ b) = fits_signed_from_abs w64 (a +ℤ b) (omega (arith, ints, small, size-of_fits b b_fits)) in
    rw (to_z-of_z w64 a a_fits, to_z-of_z w32 b b_fits, to_z-of_z w64 b b_wide) (to_z-of_z w64 (a +ℤ b) sum_fits)
