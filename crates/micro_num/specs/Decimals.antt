-- A decimal fraction in units of 2^-16 (TeX: The Program, section 102).
use Rattle.std.specs.Prelude.{◌≡◌, refl, ℕ, ◌+◌, ◌*◌, ◌/◌, ◌<◌, List, [], ◌∷◌}

-- each is a decimal digit
abbrev pub IsDigit : ℕ → Type 0
IsDigit d = d < 10

-- the fraction of the digits after the point, in units of 2^-17, each step cut
abbrev pub halves_of : List ℕ → ℕ
halves_of [] = 0
halves_of (digit ∷ digits) = (halves_of digits + digit * 131072) / 10

-- the fraction in units of 2^-16
abbrev pub decimal_fraction : List ℕ → ℕ
decimal_fraction digits = (halves_of digits + 1) / 2

-- three tenths
pub three_tenths : decimal_fraction (3 ∷ []) ≡ 19661
three_tenths = refl
