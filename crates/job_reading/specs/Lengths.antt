-- Dimensions and glues (TeX: The Program, sections 448 to 461).
use Rattle.std.specs.Prelude.{codes, ℕ, ◌^◌, ◌<◌, ◌≤◌, ℤ, pos, Bool, false, ◌||◌, ◌&&◌, ◌==◌, nat_lt, List, [], ◌∷◌, take, Option, Some, None, Result, Ok, if◌then◌else◌}
use Rattle.std.specs.Option.{option_map, option_and_then}
use Rattle.std.proofs.Common.{lit≤}
use Rattle.micro_num.specs.declared.glue.Glue.{Glue}
use Rattle.micro_num.specs.declared.unit.Unit.{Unit as LengthUnit}
use Rattle.micro_num.specs.declared.unit.Unit.TheVariants.{Pt, In, Pc, Cm, Mm, Bp, Dd, Cc, Sp}
use Rattle.micro_num.specs.Decimals.{decimal_fraction}
use Rattle.micro_num.specs.Units.{unit_size}
use Rattle.job_reading.specs.declared.token.Token.{Token}
use Rattle.job_reading.specs.declared.fault.Fault.{Fault}
use Rattle.job_reading.specs.declared.fault.JobFaultKind.TheVariants.{NumberExpected, NumberPast, UnitExpected, DimensionTooLarge, InfiniteShrink}
use Rattle.job_reading.specs.declared.glues.Order.{Order}
use Rattle.job_reading.specs.declared.glues.Order.TheVariants.{Finite, Fil, Fill, Filll}
use Rattle.job_reading.specs.Lexemes.{is_char, is_digit, keyword_letter, keyword}
use Rattle.job_reading.specs.Reading.{Reading, ◌>>=◌, place, fault, skip_space}
use Rattle.job_reading.specs.Numbers.{signs, digits, behind_digits, decimal, with_sign}

abbrev pub begins_with_digit : List Token → Bool
begins_with_digit [] = false
begins_with_digit (tok ∷ toks) = is_digit tok.lexeme

-- the tokens behind a `.` or a `,`
abbrev pub behind_point : List Token → Option (List Token)
behind_point [] = None
behind_point (tok ∷ toks) = if is_char tok.lexeme 46 || is_char tok.lexeme 44 then Some toks else None

-- a whole part and a fraction in units of 2^-16, and the tokens behind them
abbrev pub Mantissa : Type 0
Mantissa = ℕ × ℕ × List Token

-- the parts of a mantissa: with a point behind the digits, there are decimals
abbrev pub mantissa_of : List Token → Option (List Token) → Option Mantissa
mantissa_of toks None = if begins_with_digit toks then Some (decimal toks, 0, behind_digits toks) else None
mantissa_of toks (Some decimals) =
    if begins_with_digit toks || begins_with_digit decimals
    then Some (decimal toks, decimal_fraction (take 17 (digits decimals)), behind_digits decimals)
    else None

-- digits, and optionally a point or comma and digits, of which 17 count; at least one digit in all
abbrev pub mantissa : List Token → Option Mantissa
mantissa toks = mantissa_of toks (behind_point (behind_digits toks))

-- the unit of two letters
abbrev pub unit_of : ℕ → ℕ → Option LengthUnit
unit_of first second =
    if first == 112 && second == 116 then Some Pt
    else (if first == 105 && second == 110 then Some In
    else (if first == 112 && second == 99 then Some Pc
    else (if first == 99 && second == 109 then Some Cm
    else (if first == 109 && second == 109 then Some Mm
    else (if first == 98 && second == 112 then Some Bp
    else (if first == 100 && second == 100 then Some Dd
    else (if first == 99 && second == 99 then Some Cc
    else (if first == 115 && second == 112 then Some Sp
    else None))))))))

-- two Char tokens that are a unit, in either case, and the tokens behind them
abbrev pub unit_at : List Token → Option (LengthUnit × List Token)
unit_at [] = None
unit_at (one ∷ []) = None
unit_at (one ∷ other ∷ toks) =
    option_and_then (λ first. option_and_then (λ second. option_map (λ unit. (unit, toks)) (unit_of first second)) (keyword_letter other.lexeme)) (keyword_letter one.lexeme)

-- whether a `-` count was odd, the whole part, and the fraction in units of 2^-16
abbrev pub Quantity : Type 0
Quantity = Bool × ℕ × ℕ

-- the whole part is below 2^31 and the fraction at most 1
abbrev pub IsQuantity : Quantity → Type 0
IsQuantity quantity = (quantity.1 < 2 ^ 31) × (quantity.2 ≤ 65536)

-- the signs and digits of a dimension, whose first sign stands at a place
abbrev pub quantity_of : ℕ → ℕ → Bool → Option Mantissa → Reading Quantity
quantity_of first found negative None = fault NumberExpected found
quantity_of first found negative (Some m) =
    if nat_lt 2147483647 m.0 then fault NumberPast first
    else Ok ((negative, m.0, m.1), m.2)

unfoldable pub quantity : ℕ → List Token → Reading Quantity
quantity end toks =
    let behind = (signs false toks).1 in
    quantity_of (place end toks) (place end behind) (signs false toks).0 (mantissa behind)

-- the size of a quantity in a unit, below 2^30 sp
unfoldable pub size_of : ℕ → Quantity → LengthUnit → Result ℤ Fault
size_of first quantity unit =
    if nat_lt (unit_size quantity.1 quantity.2 unit) (2 ^ 30) then Ok (with_sign quantity.0 (unit_size quantity.1 quantity.2 unit))
    else fault DimensionTooLarge first

abbrev pub size_in : ℕ → ℕ → Quantity → Option (LengthUnit × List Token) → Reading ℤ
size_in first found quantity None = fault UnitExpected found
size_in first found quantity (Some unit) = size_of first quantity unit.0 >>= λ size. Ok (size, skip_space unit.1)

-- the unit of a quantity, and a Space
unfoldable pub in_unit : ℕ → ℕ → Quantity → List Token → Reading ℤ
in_unit end first quantity toks = size_in first (place end toks) quantity (unit_at toks)

-- signs, digits, a Space, a unit and a Space
unfoldable pub dimension : ℕ → List Token → Reading ℤ
dimension end toks = quantity end toks >>= λ q. in_unit end (place end toks) q.0 (skip_space q.1)

-- `fil` and up to two more letters `l`, the longest that stands there
abbrev pub infinite_more : List Token → Option (List Token) → Order × List Token
infinite_more toks None = (Fill, toks)
infinite_more toks (Some more) = (Filll, more)

abbrev pub infinite_of : List Token → Option (List Token) → Order × List Token
infinite_of toks None = (Fil, toks)
infinite_of toks (Some more) = infinite_more more (keyword (codes "l") more)

abbrev pub infinite : List Token → Order × List Token
infinite toks = infinite_of toks (keyword (codes "l") toks)

-- a size and its order
abbrev pub stretch_of : ℕ → ℕ → Quantity → List Token → Option (List Token) → Reading (ℤ × Order)
stretch_of end first quantity toks None = in_unit end first quantity toks >>= λ x. Ok ((x.0, Finite), x.1)
stretch_of end first quantity toks (Some more) = size_of first quantity Pt >>= λ size. Ok ((size, (infinite more).0), skip_space (infinite more).1)

-- a dimension or an infinite amount, whose size is computed as for points
unfoldable pub stretch : ℕ → List Token → Reading (ℤ × Order)
stretch end toks = quantity end toks >>= λ q. stretch_of end (place end toks) q.0 (skip_space q.1) (keyword (codes "fil") (skip_space q.1))

abbrev pub shrink_of : ℕ → ℕ → Quantity → List Token → Option (List Token) → Reading ℤ
shrink_of end first quantity toks None = in_unit end first quantity toks
shrink_of end first quantity toks (Some more) = fault InfiniteShrink (place end toks)

-- a dimension; an infinite amount is a fault
unfoldable pub shrink : ℕ → List Token → Reading ℤ
shrink end toks = quantity end toks >>= λ q. shrink_of end (place end toks) q.0 (skip_space q.1) (keyword (codes "fil") (skip_space q.1))

abbrev pub plus_of : ℕ → List Token → Option (List Token) → Reading (ℤ × Order)
plus_of end toks None = Ok ((pos 0, Finite), toks)
plus_of end toks (Some amount) = stretch end amount

-- optionally a Space and `plus` and an amount; without `plus` the Space is taken all the same
unfoldable pub plus : ℕ → List Token → Reading (ℤ × Order)
plus end toks = plus_of end (skip_space toks) (keyword (codes "plus") (skip_space toks))

abbrev pub minus_of : ℕ → List Token → Option (List Token) → Reading ℤ
minus_of end toks None = Ok (pos 0, toks)
minus_of end toks (Some amount) = shrink end amount

-- optionally a Space and `minus` and a dimension
unfoldable pub minus : ℕ → List Token → Reading ℤ
minus end toks = minus_of end (skip_space toks) (keyword (codes "minus") (skip_space toks))

-- the number of an order
abbrev pub level : Order → ℕ
level Finite = 0
level Fil = 1
level Fill = 2
level Filll = 3

-- there is such an order
pub level_exists : (order : Order) → level order ≤ 3
level_exists Finite = lit≤ tt
level_exists Fil = lit≤ tt
level_exists Fill = lit≤ tt
level_exists Filll = lit≤ tt

-- a glue of these sizes, the stretch in units of its order
abbrev pub glue_of : ℤ → ℤ → Order → ℤ → Glue
glue_of width stretch order shrink = record { width = width; stretch = stretch; order = level order; shrink = shrink; order_exists = level_exists order }

-- a width, and what it stretches and shrinks by
unfoldable pub glue : ℕ → List Token → Reading Glue
glue end toks =
    dimension end toks >>= λ width.
    plus end width.1 >>= λ stretch.
    minus end stretch.1 >>= λ shrink.
    Ok (glue_of width.0 stretch.0.0 stretch.0.1 shrink.0, shrink.1)
