-- How well a line fits (TeX: The Program, sections 850 to 853; pdfTeX manual, `\pdfprotrudechars` and `\pdfadjustspacing`).
--     shared_expansion        the limits and the step that the expandable fonts of a list share
--     shortfall_of            what the glue of a line has to make up for
--     fit_of                  the shortfall with the badness and the class of the line
use Rattle.std.specs.Prelude.{ℕ, ◌/◌, ◌&&◌, not, ℤ, pos, ◌+ℤ◌, ◌-ℤ◌, neg_ℤ, int_lt, int_le, unsigned_abs, Bool, List, [], ◌∷◌, ◌++◌, flat_map, filter_map, slice_get, Option, Some, None, option_and_then, if◌then◌else◌}
use Rattle.std.specs.Ordering.{int_eq}
use Rattle.micro_num.specs.declared.params.Params.{Params}
use Rattle.micro_num.specs.declared.shape.ShapeLine.{ShapeLine}
use Rattle.micro_num.specs.Badness.{badness_of}
use Rattle.micro_num.specs.LineClass.{class_stretched, class_shrunk}
use Rattle.micro_num.specs.Shape.{line_at}
use Rattle.font_stock.specs.declared.expand.Expand.{Expand}
use Rattle.font_stock.specs.declared.font.Font.{Font}
use Rattle.hlist.specs.declared.item.KernLeft.{KernLeft}
use Rattle.hlist.specs.declared.item.Item.{Item}
use Rattle.hlist.specs.declared.item.Item.TheVariants.{Char, Lig, FontKern, Disc}
use Rattle.hlist.specs.declared.item.Sub.{Sub}
use Rattle.hlist.specs.declared.item.Sub.TheVariants.{Char as sub_char, Lig as sub_lig, FontKern as sub_kern}
use Rattle.break_rule.specs.declared.line.From.{From}
use Rattle.break_rule.specs.declared.line.LineFit.{LineFit}
use Rattle.break_rule.specs.declared.sums.Sums.{Sums}
use Rattle.break_rule.specs.Adding.{plus, sums_of_glue}
use Rattle.break_rule.specs.Lines.{left_hang, right_hang, measure_sums}

abbrev pub font_of_left : Option KernLeft → List ℕ
font_of_left None = []
font_of_left (Some left) = left.font ∷ []

-- the fonts that an entry of a discretionary and an item name
abbrev pub fonts_of_sub : Sub → List ℕ
fonts_of_sub (sub_char font code) = font ∷ []
fonts_of_sub (sub_lig font code covers) = font ∷ []
fonts_of_sub (sub_kern width left) = font_of_left left

abbrev pub fonts_of : Item → List ℕ
fonts_of (Char font code) = font ∷ []
fonts_of (Lig font code covers) = font ∷ []
fonts_of (FontKern width left) = font_of_left left
fonts_of (Disc lists) = flat_map fonts_of_sub (lists.pre ++ lists.post ++ lists.whole)
fonts_of _ = []

abbrev pub expand_of : List Font → ℕ → Option Expand
expand_of stock font = option_and_then (λ (f : Font). f.expand) (slice_get stock font)

-- how far the expandable fonts of a list may be expanded, in order
unfoldable pub expansions : List Font → List Item → List Expand
expansions stock items = filter_map (expand_of stock) (flat_map fonts_of items)

abbrev pub first_of : {T : Type 0} → List T → Option T
first_of [] = None
first_of (x ∷ xs) = Some x

-- what they share is what the first of them has
unfoldable pub shared_expansion : List Font → List Item → Option Expand
shared_expansion stock items = first_of (expansions stock items)

-- Half of what one step of the fonts would make up for is left, where they could make up for more than all.
abbrev pub half_a_step : ℤ → ℕ → ℕ → ℕ
half_a_step given limit step = unsigned_abs given / (limit / step) / 2

abbrev pub less_stretch : Expand → ℤ → ℤ → ℤ
less_stretch e given short =
    if int_lt short given then pos (half_a_step given e.stretch e.step)
    else (if int_lt (pos 0) given then short -ℤ given else short)

abbrev pub less_shrink : Expand → ℤ → ℤ → ℤ
less_shrink e given short =
    if int_lt (neg_ℤ short) given then neg_ℤ (pos (half_a_step given e.shrink e.step))
    else (if int_lt (pos 0) given then short +ℤ given else short)

-- what is left of a shortfall when the fonts are stretched or shrunk
abbrev pub less_fonts : Option Expand → ℤ → ℤ → ℤ → ℤ
less_fonts None stretch shrink short = short
less_fonts (Some e) stretch shrink short =
    if int_lt (pos 0) short then less_stretch e stretch short
    else (if int_lt short (pos 0) then less_shrink e shrink short else short)

-- what the line measures with the glue at its margins
abbrev pub with_margins : Params → Sums → Sums
with_margins params sums = plus sums (plus (sums_of_glue params.leftskip) (sums_of_glue params.rightskip))

-- hangs count at level 2 and above, and so does the expansion of fonts
abbrev pub hangs_in : Params → List Font → List Item → From → ℕ → ℤ
hangs_in params stock items from to =
    if int_le (pos 2) params.pdfprotrudechars then left_hang stock items from to +ℤ right_hang stock items from to else pos 0

abbrev pub natural_shortfall : ℤ → Sums → ℤ → ℤ
natural_shortfall width sums hang = width -ℤ sums.width +ℤ hang

abbrev pub after_fonts : Params → Option Expand → Sums → ℤ → ℤ
after_fonts params expand sums short =
    if int_le (pos 2) params.pdfadjustspacing then less_fonts expand sums.font_stretch sums.font_shrink short else short

abbrev pub has_infinite : Sums → Bool
has_infinite sums = not (int_eq sums.fil (pos 0) && int_eq sums.fill (pos 0) && int_eq sums.filll (pos 0))

abbrev pub stretched : ℤ → ℕ → LineFit
stretched short badness = record { shortfall = short; badness = badness; class = class_stretched badness }

abbrev pub shrunk : ℤ → ℕ → LineFit
shrunk short badness = record { shortfall = short; badness = badness; class = class_shrunk badness }

-- a line that has to stretch: any infinite stretch does it; far too little finite stretch is told apart first
abbrev pub stretching : Sums → ℤ → ℤ → LineFit
stretching sums finite short =
    if has_infinite sums then (record { shortfall = short; badness = 0; class = 2 })
    else (if int_lt (pos 7230584) short && int_lt finite (pos 1663497) then (record { shortfall = short; badness = 10000; class = 0 })
    else stretched short (badness_of short finite))

-- a line that has to shrink: it is overfull where it can't shrink so much
abbrev pub shrinking : Sums → ℤ → LineFit
shrinking sums short =
    if int_lt sums.shrink (neg_ℤ short) then (record { shortfall = short; badness = 10001; class = 3 })
    else shrunk short (badness_of (neg_ℤ short) sums.shrink)

abbrev pub fit_at : Sums → ℤ → ℤ → LineFit
fit_at sums finite short = if int_lt (pos 0) short then stretching sums finite short else shrinking sums short

abbrev pub emergency_of : Params → Bool → ℤ
emergency_of params emergency = if emergency then params.emergencystretch else pos 0

abbrev pub fit_of_sums : Params → Bool → Option Expand → ℤ → Sums → ℤ → LineFit
fit_of_sums params emergency expand width sums hang =
    fit_at sums (sums.finite +ℤ emergency_of params emergency)
    (after_fonts params expand sums (natural_shortfall width sums hang))

-- what breaking is asked for: a list, with what it is set by, and whether the emergency stretch counts
pub record Rule : Type 0 where
  pub items : List Item
  pub params : Params
  pub shape : List ShapeLine
  pub stock : List Font
  pub emergency : Bool

-- the fit of the line from a break to a place, as the line of a number
unfoldable pub fit_of : Rule → From → ℕ → ℕ → LineFit
fit_of rule from to number =
    fit_of_sums rule.params rule.emergency (shared_expansion rule.stock rule.items) (line_at rule.params rule.shape number).width
    (with_margins rule.params (measure_sums rule.stock rule.items from to))
    (hangs_in rule.params rule.stock rule.items from to)
