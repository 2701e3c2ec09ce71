-- What stands before a part of a paragraph and behind it: the font, the space factor and the run (TeX: The
-- Program, sections 1029 to 1034).
use Rattle.std.specs.Prelude.{ℕ, Bool, true, false, ◌==◌, nat_lt, nat_le, if◌then◌else◌, List, [], ◌∷◌, Option, Some, None, is_some, slice_index, slice_get, fold, filter_map, ◌<◌}
use Rattle.std.specs.Option.{option_map_or}
use Rattle.micro_num.specs.declared.paragraph.PartAt.{PartAt}
use Rattle.micro_num.specs.declared.part.Part.{Part}
use Rattle.micro_num.specs.declared.part.Part.TheVariants.{Char, Font as font_part}
use Rattle.micro_num.specs.declared.tables.Tables.{Tables}

-- the code of a Char part
abbrev pub code_of : Part → Option ℕ
code_of (Char code) = Some code
code_of _ = None

-- the codes of the Char parts among some
abbrev pub codes_of : List PartAt → List ℕ
codes_of parts = filter_map (λ one. code_of one.part) parts

-- the codes of the run that some parts begin with, which are those before the first part that isn't a Char
abbrev pub begun_by : Option ℕ → List ℕ → List ℕ
begun_by None codes = []
begun_by (Some code) codes = code ∷ codes

unfoldable pub run_codes : List PartAt → List ℕ
run_codes [] = []
run_codes (one ∷ parts) = begun_by (code_of one.part) (run_codes parts)

-- whether a Char behind these parts goes on with a run: the last of them is a Char
abbrev pub goes_on : List PartAt → Bool
goes_on before = fold (λ last one. is_some (code_of one.part)) false before

-- where part number k begins in the source
abbrev pub offset_at : List PartAt → ℕ → ℕ
offset_at parts k = option_map_or (λ one. one.offset) (slice_get parts k) 0

-- the font behind these parts is that of the last Font part
abbrev pub font_after : Option ℕ → Part → Option ℕ
font_after font (font_part number) = Some number
font_after font _ = font

abbrev pub font_before : List PartAt → Option ℕ
font_before before = fold (λ font one. font_after font one.part) None before

-- A space factor code changes the space factor: 0 leaves it, up to 1000 it is the new factor, and so is a
-- greater one, but that a factor below 1000 goes no further than 1000.
abbrev pub factor_with : ℕ → ℕ → ℕ
factor_with factor code =
    if code == 0 then factor
    else if nat_le code 1000 then code
    else if nat_lt factor 1000 then 1000
    else code

-- the space factor behind characters of these codes; it is 1000 where a paragraph begins
abbrev pub factor_from : Tables → ℕ → List ℕ → ℕ
factor_from tables factor codes = fold (λ factor code. factor_with factor (slice_index tables.sfcode code)) factor codes

abbrev pub factor_before : Tables → List PartAt → ℕ
factor_before tables before = factor_from tables 1000 (codes_of before)

-- a Font part names one of so many fonts
abbrev pub NamesFont : ℕ → Part → Type 0
NamesFont count (font_part number) = number < count
NamesFont count _ = Unit {0}
