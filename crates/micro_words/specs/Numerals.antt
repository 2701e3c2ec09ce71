-- Numbers in decimal digits without a leading zero.
--     number_up_to most text     the number from 1 to most that the text writes
use Rattle.std.specs.Prelude.{ℕ, Bool, false, ◌&&◌, nat_le, List, [], ◌∷◌, Option, Some, None}
use Rattle.std.specs.Prelude.{if◌then◌else◌}
use Rattle.std.specs.List.{list_all}
use Rattle.std.specs.Char.{is_digit}
use Rattle.std.specs.Str.Parse.{digits_value}

-- a decimal digit
abbrev pub is_decimal : ℕ → Bool
is_decimal code = is_digit code 10

-- a numeral has digits alone, and the first is at least 1
unfoldable pub is_plain_numeral : List ℕ → Bool
is_plain_numeral [] = false
is_plain_numeral (first ∷ rest) = nat_le 49 first && list_all is_decimal (first ∷ rest)

-- a number within its limit
abbrev pub if_up_to : ℕ → ℕ → Option ℕ
if_up_to most number = if nat_le number most then Some number else None

-- what is at least 1, as a plain numeral is, and at most the limit
unfoldable pub number_up_to : ℕ → List ℕ → Option ℕ
number_up_to most text =
    if is_plain_numeral text then if_up_to most (digits_value 10 text) else None
