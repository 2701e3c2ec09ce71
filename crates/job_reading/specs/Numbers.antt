-- Numbers: signs, and decimal digits or a character's code (TeX: The Program, sections 440 to 445).
use Rattle.std.specs.Prelude.{ℕ, ◌+◌, ◌*◌, ℤ, pos, negsuc, neg_ℤ, Bool, true, false, not, ◌&&◌, nat_lt, nat_le, List, [], ◌∷◌, Option, Some, None, Ok, if◌then◌else◌}
use Rattle.std.specs.Option.{option_map}
use Rattle.job_reading.specs.declared.token.Token.{Token}
use Rattle.job_reading.specs.declared.fault.JobFaultKind.TheVariants.{NumberExpected, NumberPast}
use Rattle.job_reading.specs.Lexemes.{is_char, is_space, is_digit, digit_value, constant_value}
use Rattle.job_reading.specs.Reading.{Reading, ◌>>=◌, place, fault, skip_space}

-- Any count of `+`, `-` and Space tokens: whether an odd count of `-` stood there, given whether one did
-- before, and the tokens behind them.
abbrev pub signs : Bool → List Token → Bool × List Token
signs negative [] = (negative, [])
signs negative (tok ∷ toks) =
    if is_char tok.lexeme 45 then signs (not negative) toks
    else (if is_char tok.lexeme 43 then signs negative toks
    else (if is_space tok.lexeme then signs negative toks
    else (negative, tok ∷ toks)))

-- the digits at the front
abbrev pub digits : List Token → List ℕ
digits [] = []
digits (tok ∷ toks) = if is_digit tok.lexeme then digit_value tok.lexeme ∷ digits toks else []

-- the tokens behind the digits at the front
abbrev pub behind_digits : List Token → List Token
behind_digits [] = []
behind_digits (tok ∷ toks) = if is_digit tok.lexeme then behind_digits toks else tok ∷ toks

-- the number with the decimal digits of one more, and then these
abbrev pub decimal_from : ℕ → List ℕ → ℕ
decimal_from value [] = value
decimal_from value (digit ∷ more) = decimal_from (10 * value + digit) more

-- the value of the digits at the front
abbrev pub decimal : List Token → ℕ
decimal toks = decimal_from 0 (digits toks)

-- what stands behind a backquote
abbrev pub character : List Token → Option (ℕ × List Token)
character [] = None
character (tok ∷ toks) = option_map (λ code. (code, toks)) (constant_value tok.lexeme)

-- digits, or a backquote and a character
abbrev pub constant : List Token → Option (ℕ × List Token)
constant [] = None
constant (tok ∷ toks) =
    if is_digit tok.lexeme then Some (decimal (tok ∷ toks), behind_digits (tok ∷ toks))
    else (if is_char tok.lexeme 96 then character toks
    else None)

-- a magnitude under its sign
abbrev pub with_sign : Bool → ℕ → ℤ
with_sign true value = neg_ℤ (pos value)
with_sign false value = pos value

-- the number that a constant gives, whose first sign stands at a place
abbrev pub constant_with_sign : ℕ → ℕ → Bool → Option (ℕ × List Token) → Reading ℤ
constant_with_sign first found negative None = fault NumberExpected found
constant_with_sign first found negative (Some constant) =
    if nat_lt 2147483647 constant.0 then fault NumberPast first
    else Ok (with_sign negative constant.0, skip_space constant.1)

-- signs, a constant and a Space
unfoldable pub number : ℕ → List Token → Reading ℤ
number end toks =
    let behind = (signs false toks).1 in
    constant_with_sign (place end toks) (place end behind) (signs false toks).0 (constant behind)

-- a whole number within bounds, which aren't negative
abbrev pub within : ℕ → ℕ → ℤ → Option ℕ
within least most (pos n) = if nat_le least n && nat_le n most then Some n else None
within least most (negsuc n) = None

abbrev pub in_range : ℕ → Option ℕ → List Token → Reading ℕ
in_range first None toks = fault NumberPast first
in_range first (Some n) toks = Ok (n, toks)

-- a number within bounds; another is past its range
unfoldable pub natural : ℕ → ℕ → ℕ → List Token → Reading ℕ
natural least most end toks = number end toks >>= λ x. in_range (place end toks) (within least most x.0) x.1
