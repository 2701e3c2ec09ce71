-- The range of a size whose first byte is 0 or 255.
use Rattle.std.proofs.Common.{◌≡◌, ℕ, ◌+◌, ◌*◌, ◌^◌, ◌<◌, ◌≤◌, ◌⊎◌, Bool, true, false, ◌||◌, eqb, List, [], ◌∷◌, get_or, None, ℤ, pos, negsuc, ltb, suc, ◌-◌, refl, sym, ap, subst, ◌∙◌, inl, inr, add-zero, arith, FitsSigned, to_z, of_z}
use Rattle.std.specs.Int.{w32, cast_signed}
use Rattle.byteorder.specs.Endian.{big_number}
use Rattle.std.proofs.lemmas.Bool.{eqb-true, le-ltb}
use Rattle.std.proofs.lemmas.Int.{ints, to_z-of_z}
use Rattle.tfm_read.specs.Checks.{fix_check, table_check, param_check}
use Rattle.micro_num.specs.Scaling.{IsFixWord}
use Rattle.tfm_read.specs.Sizes.{IsSize, IsParam}
use Rattle.tfm_read.specs.Words.{byte_of, word_of, signed_number, unsigned_number}

negative_range : (m : ℕ) → m < 2 ^ 24 → IsFixWord (negsuc m)
negative_range m lt = record { low = omega (arith, ints); high = omega (arith, ints) }

fix_range : (n : ℕ) → n < 2 ^ 32 → (n < 2 ^ 24) ⊎ (255 * 2 ^ 24 ≤ n) → IsFixWord (cast_signed w32 n)
fix_range n lt (inl e) = record { low = omega (arith, ints); high = omega (arith, ints) }
fix_range n lt (inr e) =
    let test : ltb n (2 ^ 31) ≡ false = le-ltb _ _ (omega arith) in
    rw test (negative_range (2 ^ 32 - suc n) (omega arith))

is_fix_word : (b0 b1 b2 b3 : ℕ) → b0 < 256 → b1 < 256 → b2 < 256 → b3 < 256 → (b0 ≡ 0) ⊎ (b0 ≡ 255) → IsFixWord (signed_number (b0 ∷ b1 ∷ b2 ∷ b3 ∷ []))
is_fix_word b0 b1 b2 b3 f0 f1 f2 f3 (inl e) = unfold signed_number in fix_range (big_number 4 (b0 ∷ b1 ∷ b2 ∷ b3 ∷ [])) (omega arith) (inl (omega arith))
is_fix_word b0 b1 b2 b3 f0 f1 f2 f3 (inr e) = unfold signed_number in fix_range (big_number 4 (b0 ∷ b1 ∷ b2 ∷ b3 ∷ [])) (omega arith) (inr (omega arith))

either_byte : (b : ℕ) → (eqb b 0 || eqb b 255) ≡ true → (b ≡ 0) ⊎ (b ≡ 255)
either_byte b e =
    elim (eqb b 0) as (λ v. (eqb b 0 ≡ v) → (v || eqb b 255) ≡ true → (b ≡ 0) ⊎ (b ≡ 255)) [
      | true ↦ λ is t. inl (eqb-true b 0 is)
      | false ↦ λ is t. inr (eqb-true b 255 t)
    ] refl e

pub byte_fits : (bytes : List ℕ) → ((i : ℕ) → get_or bytes i 0 < 256) → (word j : ℕ) → byte_of bytes word j < 256
unfolding byte_of
byte_fits bytes fits word j = fits (4 * word + j)

pub size_fits : (bytes : List ℕ) → ((i : ℕ) → get_or bytes i 0 < 256) → (word : ℕ) → (eqb (byte_of bytes word 0) 0 || eqb (byte_of bytes word 0) 255) ≡ true
    → IsFixWord (signed_number (word_of bytes word))
size_fits bytes fits word e =
    is_fix_word (byte_of bytes word 0) (byte_of bytes word 1) (byte_of bytes word 2) (byte_of bytes word 3) (byte_fits bytes fits word 0) (byte_fits bytes fits word 1) (byte_fits bytes fits word 2) (byte_fits bytes fits word 3) (either_byte (byte_of bytes word 0) e)

-- a size that was read
pub size_read : (bytes word : List ℕ) (place i : ℕ) (size : ℤ) (b : Bool) → ((i : ℕ) → get_or bytes i 0 < 256) → FitsSigned w32 size → word ≡ word_of bytes (place + i)
    → b ≡ (eqb (get_or word 0 0) 0 || eqb (get_or word 0 0) 255) → b ≡ true → size ≡ signed_number word
    → (fix_check bytes place i ≡ None) × IsSize bytes place i (to_z w32 (of_z w32 size))
unfolding fix_check
size_read bytes word place i size b fits range told test passes is =
    let here : (eqb (byte_of bytes (place + i) 0) 0 || eqb (byte_of bytes (place + i) 0) 255) ≡ true =
    ap (λ (w : List ℕ). eqb (get_or w 0 0) 0 || eqb (get_or w 0 0) 255) (sym told) ∙ sym test ∙ passes in
    let same : to_z w32 (of_z w32 size) ≡ signed_number (word_of bytes (place + i)) = to_z-of_z w32 size range ∙ is ∙ ap signed_number told in
    (rw here refl, (same, rw same (size_fits bytes fits (place + i) here)))

signed_zero : (word : List ℕ) → unsigned_number word ≡ 0 → signed_number word ≡ pos 0
unfolding signed_number unsigned_number
signed_zero word e = ap (cast_signed w32) e

pub zero_fits : IsFixWord (pos 0)
zero_fits = record { low = omega (arith, ints); high = omega (arith, ints) }

-- the first word of a table, which is 0
pub first_read : (bytes : List ℕ) (place i n : ℕ) → i ≤ 0 → n ≡ unsigned_number (word_of bytes place) → n ≡ 0
    → (table_check bytes place i ≡ None) × IsSize bytes place i (pos 0)
unfolding table_check
first_read bytes place i n le told zero =
    let e : 0 ≡ i = omega arith in
    let here : unsigned_number (word_of bytes place) ≡ 0 = sym told ∙ zero in
    subst (λ (k : ℕ). (table_check bytes place k ≡ None) × IsSize bytes place k (pos 0)) e
    (rw here refl, (rw add-zero (sym (signed_zero (word_of bytes place) here)), zero_fits))

-- the slant
pub slant_read : (bytes : List ℕ) (place i : ℕ) (size : ℤ) → i ≤ 0 → FitsSigned w32 size → size ≡ signed_number (word_of bytes place)
    → (param_check bytes place i ≡ None) × IsParam bytes place i (to_z w32 (of_z w32 size))
unfolding param_check
slant_read bytes place i size le range told =
    let e : 0 ≡ i = omega arith in
    subst (λ (k : ℕ). (param_check bytes place k ≡ None) × IsParam bytes place k (to_z w32 (of_z w32 size))) e
    (refl, (rw add-zero (to_z-of_z w32 size range ∙ told), λ lt. absurd (omega arith)))
