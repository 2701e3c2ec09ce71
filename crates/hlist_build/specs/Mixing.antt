-- Whether the fonts of a paragraph expand alike (pdfTeX manual, `\pdffontexpand` and `\pdfadjustspacing`).
use Rattle.std.specs.Prelude.{ℕ, ◌==◌, ◌&&◌, Bool, not, int_lt, if◌then◌else◌, pos, List, [], ◌∷◌, Option, Some, None, option_map, option_and_then, option_to_list, ◌++◌, slice_get, filter_map, find}
use Rattle.font_stock.specs.declared.expand.Expand.{Expand}
use Rattle.font_stock.specs.declared.font.Font.{Font}
use Rattle.micro_num.specs.declared.paragraph.PartAt.{PartAt}
use Rattle.micro_num.specs.declared.params.Params.{Params}
use Rattle.micro_num.specs.declared.part.Part.{Part}
use Rattle.micro_num.specs.declared.part.Part.TheVariants.{Char, Hyphen, Disc}
use Rattle.hlist_build.specs.Parts.{font_after}
use Rattle.hlist_build.specs.declared.mixing.Expanding.{Expanding}

-- a run, a discretionary or a hyphen stands in the current font
abbrev pub stands_in : Option ℕ → Part → Option ℕ
stands_in font (Char code) = font
stands_in font Hyphen = font
stands_in font (Disc lists) = font
stands_in font _ = None

-- the fonts in which such parts stand, from a current font on, in the order of the parts
unfoldable pub standing : Option ℕ → List PartAt → List ℕ
standing font [] = []
standing font (one ∷ parts) = option_to_list (stands_in font one.part) ++ standing (font_after font one.part) parts

-- a font of a stock that may be expanded, and how far
abbrev pub expanding_of : List Font → ℕ → Option Expanding
expanding_of stock number =
    option_and_then (λ font. option_map (λ expand. record { font = number; expand = expand }) font.expand)
    (slice_get stock number)

-- the font in which a part stands, where it may be expanded
abbrev pub expanding_in : List Font → Option ℕ → Part → Option Expanding
expanding_in stock font part = option_and_then (expanding_of stock) (stands_in font part)

abbrev pub expanding : List Font → List ℕ → List Expanding
expanding stock numbers = filter_map (expanding_of stock) numbers

-- the limits and the steps are the same
abbrev pub expand_alike : Expand → Expand → Bool
expand_alike a b = a.stretch == b.stretch && (a.shrink == b.shrink && a.step == b.step)

-- the first of some fonts that doesn't expand as a font does
unfoldable pub other_than : Expand → List Expanding → Option ℕ
other_than first others =
    option_map (λ other. other.font) (find (λ other. not (expand_alike first other.expand)) others)

-- the first font that doesn't expand as the first of them does
unfoldable pub first_other : List Expanding → Option ℕ
first_other [] = None
first_other (first ∷ others) = other_than first.expand others

-- the font named where fonts are mixed that expand in different ways, which counts where lines expand at all
unfoldable pub mixed : Params → List Font → List PartAt → Option ℕ
mixed params stock parts =
    if int_lt (pos 0) params.pdfadjustspacing then first_other (expanding stock (standing None parts)) else None
