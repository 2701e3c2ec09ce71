-- The numbers, the lengths and the glues that are read are bounded.
use Rattle.std.proofs.Common.{◌≡◌, ℕ, ◌^◌, ◌<◌, ◌≤◌, Bool, true, false, cond, List, Option, Some, None, Ok, refl, arith, lit≤}
use Rattle.std.specs.Prelude.{codes, ℤ, pos, nat_lt}
use Rattle.std.proofs.lemmas.Bool.{ltb-true, ltb-false}
use Rattle.std.proofs.lemmas.Int.{ints}
use Rattle.micro_num.specs.declared.unit.Unit.{Unit as LengthUnit}
use Rattle.micro_num.specs.declared.unit.Unit.TheVariants.{Pt}
use Rattle.micro_num.specs.Units.{unit_size}
use Rattle.job_reading.specs.declared.token.Token.{Token}
use Rattle.job_reading.specs.declared.fault.JobFaultKind.TheVariants.{DimensionTooLarge}
use Rattle.job_reading.specs.declared.glues.Order.{Order}
use Rattle.job_reading.specs.declared.glues.Order.TheVariants.{Finite, Fil, Fill, Filll}
use Rattle.job_reading.specs.Bounds.{IsLength, IsNumber, IsGlue}
use Rattle.job_reading.specs.Lexemes.{keyword}
use Rattle.job_reading.specs.Reading.{Reading, ◌>>=◌, place, fault, skip_space}
use Rattle.job_reading.specs.Numbers.{signs, constant, with_sign, constant_with_sign, number}
use Rattle.job_reading.specs.Lengths.{Quantity, quantity, size_of, size_in, unit_at, in_unit, dimension, stretch_of, stretch, shrink_of, shrink, plus_of, plus, minus_of, minus, glue_of, glue}
use Rattle.job_reading.proofs.Keeping.{OnRead, OnRead-bind, OnRead-then, OnRead-if}

-- numbers
pub natural_number : (n : ℕ) → n ≤ 2147483647 → IsNumber (pos n)
natural_number n small = record { low = omega (arith, ints); high = omega (arith, ints, small) }

number_with_sign : (negative : Bool) (n : ℕ) → n ≤ 2147483647 → IsNumber (with_sign negative n)
number_with_sign true n small = record { low = omega (arith, ints, small); high = omega (arith, ints, small) }
number_with_sign false n small = natural_number n small

constant_bounded : (first found : ℕ) (negative : Bool) (read : Option (ℕ × List Token)) → OnRead IsNumber (constant_with_sign first found negative read)
constant_bounded first found negative None = tt
constant_bounded first found negative (Some read) = OnRead-if IsNumber (nat_lt 2147483647 read.0) _ _ (λ past. tt) (λ near. number_with_sign negative read.0 (ltb-false _ _ near))

pub number_bounded : (end : ℕ) (toks : List Token) → OnRead IsNumber (number end toks)
unfolding number
number_bounded end toks = constant_bounded (place end toks) (place end (signs false toks).1) (signs false toks).0 (constant (signs false toks).1)

-- lengths
pub natural_length : (n : ℕ) → n < 2 ^ 30 → IsLength (pos n)
natural_length n small = record { low = omega (arith, ints); high = omega (arith, ints, small) }

length_with_sign : (negative : Bool) (n : ℕ) → n < 2 ^ 30 → IsLength (with_sign negative n)
length_with_sign true n small = record { low = omega (arith, ints, small); high = omega (arith, ints, small) }
length_with_sign false n small = natural_length n small

-- what follows a size may rely on its being a length
size_keeps : {A : Type 0} (P : A → Type 0) (first : ℕ) (q : Quantity) (unit : LengthUnit) (f : ℤ → Reading A) → ((size : ℤ) → IsLength size → OnRead P (f size)) → OnRead P (size_of first q unit >>= f)
unfolding size_of
size_keeps P first q unit f keeps = below (nat_lt (unit_size q.1 q.2 unit) (2 ^ 30)) refl where
  below : (b : Bool) → nat_lt (unit_size q.1 q.2 unit) (2 ^ 30) ≡ b → OnRead P (cond b (Ok (with_sign q.0 (unit_size q.1 q.2 unit))) (fault DimensionTooLarge first) >>= f)
  below true small = keeps (with_sign q.0 (unit_size q.1 q.2 unit)) (length_with_sign q.0 (unit_size q.1 q.2 unit) (ltb-true _ _ small))
  below false large = tt

size_in_bounded : (first found : ℕ) (q : Quantity) (unit : Option (LengthUnit × List Token)) → OnRead IsLength (size_in first found q unit)
size_in_bounded first found q None = tt
size_in_bounded first found q (Some unit) = size_keeps IsLength first q unit.0 _ (λ size bounded. bounded)

in_unit_bounded : (end first : ℕ) (q : Quantity) (toks : List Token) → OnRead IsLength (in_unit end first q toks)
unfolding in_unit
in_unit_bounded end first q toks = size_in_bounded first (place end toks) q (unit_at toks)

pub dimension_bounded : (end : ℕ) (toks : List Token) → OnRead IsLength (dimension end toks)
unfolding dimension
dimension_bounded end toks = OnRead-bind IsLength (quantity end toks) _ (λ q. in_unit_bounded end (place end toks) q.0 (skip_space q.1))

-- glues
pub nothing : IsLength (pos 0)
nothing = natural_length 0 (lit≤ tt)

-- an amount, whatever its order
abbrev IsAmount : ℤ × Order → Type 0
IsAmount amount = IsLength amount.0

stretch_of_bounded : (end first : ℕ) (q : Quantity) (toks : List Token) (infinite : Option (List Token)) → OnRead IsAmount (stretch_of end first q toks infinite)
stretch_of_bounded end first q toks None = OnRead-then IsLength IsAmount (in_unit end first q toks) _ (in_unit_bounded end first q toks) (λ x bounded. bounded)
stretch_of_bounded end first q toks (Some more) = size_keeps IsAmount first q Pt _ (λ size bounded. bounded)

stretch_bounded : (end : ℕ) (toks : List Token) → OnRead IsAmount (stretch end toks)
unfolding stretch
stretch_bounded end toks = OnRead-bind IsAmount (quantity end toks) _ (λ q. stretch_of_bounded end (place end toks) q.0 (skip_space q.1) (keyword (codes "fil") (skip_space q.1)))

plus_of_bounded : (end : ℕ) (toks : List Token) (amount : Option (List Token)) → OnRead IsAmount (plus_of end toks amount)
plus_of_bounded end toks None = nothing
plus_of_bounded end toks (Some amount) = stretch_bounded end amount

plus_bounded : (end : ℕ) (toks : List Token) → OnRead IsAmount (plus end toks)
unfolding plus
plus_bounded end toks = plus_of_bounded end (skip_space toks) (keyword (codes "plus") (skip_space toks))

shrink_of_bounded : (end first : ℕ) (q : Quantity) (toks : List Token) (infinite : Option (List Token)) → OnRead IsLength (shrink_of end first q toks infinite)
shrink_of_bounded end first q toks None = in_unit_bounded end first q toks
shrink_of_bounded end first q toks (Some more) = tt

shrink_bounded : (end : ℕ) (toks : List Token) → OnRead IsLength (shrink end toks)
unfolding shrink
shrink_bounded end toks = OnRead-bind IsLength (quantity end toks) _ (λ q. shrink_of_bounded end (place end toks) q.0 (skip_space q.1) (keyword (codes "fil") (skip_space q.1)))

minus_of_bounded : (end : ℕ) (toks : List Token) (amount : Option (List Token)) → OnRead IsLength (minus_of end toks amount)
minus_of_bounded end toks None = nothing
minus_of_bounded end toks (Some amount) = shrink_bounded end amount

minus_bounded : (end : ℕ) (toks : List Token) → OnRead IsLength (minus end toks)
unfolding minus
minus_bounded end toks = minus_of_bounded end (skip_space toks) (keyword (codes "minus") (skip_space toks))

glue_of_bounded : (width stretch : ℤ) (order : Order) (shrink : ℤ) → IsLength width → IsLength stretch → IsLength shrink → IsGlue (glue_of width stretch order shrink)
glue_of_bounded width stretch Finite shrink first second third = assumption
glue_of_bounded width stretch Fil shrink first second third = assumption
glue_of_bounded width stretch Fill shrink first second third = assumption
glue_of_bounded width stretch Filll shrink first second third = assumption

pub glue_bounded : (end : ℕ) (toks : List Token) → OnRead IsGlue (glue end toks)
unfolding glue
glue_bounded end toks =
    OnRead-then IsLength IsGlue (dimension end toks) _ (dimension_bounded end toks) (λ width first.
    OnRead-then IsAmount IsGlue (plus end width.1) _ (plus_bounded end width.1) (λ stretch second.
    OnRead-then IsLength IsGlue (minus end stretch.1) _ (minus_bounded end stretch.1) (λ shrink third.
    glue_of_bounded width.0 stretch.0.0 stretch.0.1 shrink.0 first second third)))
