-- The width and the indent of each line of a paragraph (TeX: The Program, sections 847 to 850).
use Rattle.std.specs.Prelude.{◌≡◌, refl, ℕ, ◌+◌, ◌-◌, ◌^◌, ◌<◌, min, Bool, nat_le, nat_lt, if◌then◌else◌, Option, Some, None, List, [], ◌∷◌, length, slice_index_or, pos, neg_ℤ, ◌-ℤ◌, unsigned_abs}
use Rattle.std.specs.Int.{int_max}
use Rattle.std.specs.Ordering.{int_eq}
use Rattle.std.specs.Prelude.{int_lt}
use Rattle.micro_num.specs.declared.params.Params.{Params}
use Rattle.micro_num.specs.declared.shape.ShapeLine.{ShapeLine}
use Rattle.micro_num.specs.Plain.{plain_params}

-- whether a line hangs: up to line |hangafter| where hangafter is negative, else past it
abbrev pub hangs : Params → ℕ → Bool
hangs params line =
    if int_lt params.hangafter (pos 0) then nat_le line (unsigned_abs params.hangafter)
    else nat_lt (unsigned_abs params.hangafter) line

-- a line of a paragraph without a shape: one that hangs is narrower by the absolute hangindent, and indented
-- by a hangindent above 0
unfoldable pub hung_line : Params → ℕ → ShapeLine
hung_line params line =
    if hangs params line
    then (record { indent = int_max params.hangindent (pos 0); width = params.hsize -ℤ pos (unsigned_abs params.hangindent) })
    else (record { indent = pos 0; width = params.hsize })

-- line number `line`, from 1 on: that of the shape, whose last line is repeated, else as it hangs
unfoldable pub line_at : Params → List ShapeLine → ℕ → ShapeLine
line_at params [] line = hung_line params line
line_at params (first ∷ lines) line =
    slice_index_or (first ∷ lines) (min line (length (first ∷ lines)) - 1) first

-- the last line that may differ from those after it
unfoldable pub last_special : Params → List ShapeLine → ℕ
last_special params [] = if int_eq params.hangindent (pos 0) then 0 else unsigned_abs params.hangafter
last_special params (first ∷ lines) = length lines

-- the group of all lines past the last special one; where the looseness isn't 0, each line is a group
unfoldable pub open_group : Params → List ShapeLine → Option ℕ
open_group params shape = if int_eq params.looseness (pos 0) then Some (last_special params shape + 1) else None

abbrev pub at_most : Option ℕ → ℕ → ℕ
at_most (Some most) n = min n most
at_most None n = n

-- the group of a line
unfoldable pub group_of : Params → List ShapeLine → ℕ → ℕ
group_of params shape line = at_most (open_group params shape) line

-- a line of a shape as a job may ask for it: both lengths are within ±(2^30 - 1) sp
pub record IsShapeLine (line : ShapeLine) : Type 0 where
  pub indent : unsigned_abs line.indent < 2 ^ 30
  pub width : unsigned_abs line.width < 2 ^ 30

-- lines of 35pt that hang by 12.5pt: the second is indented, and ends where the first does
abbrev pub hanging : Params
hanging = record plain_params { hsize = pos 2293760; hangindent = pos 819200 }

pub second_hangs : line_at hanging [] 2 ≡ record { indent = pos 819200; width = pos 1474560 }
unfolding line_at hung_line plain_params
second_hangs = refl

-- with hangafter -1 the first hangs alone; and a hangindent below 0 doesn't indent
pub first_hangs : line_at (record hanging { hangafter = neg_ℤ (pos 1) }) [] 1 ≡ record { indent = pos 819200; width = pos 1474560 }
unfolding line_at hung_line plain_params
first_hangs = refl

pub narrow_on_the_right : line_at (record hanging { hangindent = neg_ℤ (pos 819200) }) [] 2 ≡ record { indent = pos 0; width = pos 1474560 }
unfolding line_at hung_line plain_params
narrow_on_the_right = refl

-- a shape of two lines repeats the second
abbrev pub two_lines : List ShapeLine
two_lines = record { indent = pos 0; width = pos 1474560 } ∷ record { indent = pos 327680; width = pos 2293760 } ∷ []

pub last_line_is_repeated : line_at plain_params two_lines 7 ≡ record { indent = pos 327680; width = pos 2293760 }
unfolding line_at
last_line_is_repeated = refl
