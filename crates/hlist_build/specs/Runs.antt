-- The items of a run and of a discretionary's lists: its glyphs in a font (TeX: The Program, sections 1032 to
-- 1040, and 1117).
use Rattle.std.specs.Prelude.{ℕ, ◌-◌, ℤ, pos, negsuc, Bool, false, ◌==◌, if◌then◌else◌, List, [], ◌∷◌, length, Option, Some, None, Result, Ok, Err, true, slice_get, flat_map, option_to_list}
use Rattle.std.specs.Option.{option_map_or}
use Rattle.font_stock.specs.Fonts.{hyphen_of}
use Rattle.font_stock.specs.declared.font.Font.{Font}
use Rattle.lig_kern.specs.Outcome.{outcome}
use Rattle.lig_kern.specs.declared.fault.LigFault.{LigFault}
use Rattle.lig_kern.specs.declared.fault.LigFault.TheVariants.{Missing, TooManySteps, NoMemory}
use Rattle.lig_kern.specs.declared.glyph.Glyph.{Glyph}
use Rattle.micro_num.specs.declared.disc.ThreeLists.{ThreeLists}
use Rattle.micro_num.specs.declared.paragraph.PartAt.{PartAt}
use Rattle.hlist_runs.specs.Runs.{subs_of}
use Rattle.hlist_build.specs.Parts.{run_codes, offset_at}
use Rattle.hlist_build.specs.declared.current.Current.{Current}
use Rattle.hlist_build.specs.declared.fault.ParFault.{ParFault}
use Rattle.hlist_build.specs.declared.fault.ParFault.TheVariants.{MissingChar, LigTooLong, NoMemory as no_memory}
use Rattle.hlist.specs.declared.item.Sub.{Sub}
use Rattle.hlist.specs.declared.item.Sub.TheVariants.{Char as sub_char, Lig as sub_lig, FontKern as sub_kern}
use Rattle.hlist.specs.declared.item.Item.{Item}
use Rattle.hlist.specs.declared.item.Item.TheVariants.{Char as item_char, Lig as item_lig, FontKern as item_kern, Disc}

abbrev pub item_of : Sub → Item
item_of (sub_char font code) = item_char font code
item_of (sub_lig font code covers) = item_lig font code covers
item_of (sub_kern width left) = item_kern width left

-- a code is the font's hyphen character
abbrev pub is_hyphen : ℤ → ℕ → Bool
is_hyphen (pos hyphen) code = hyphen == code
is_hyphen (negsuc n) code = false

-- the last code that a glyph stands for is the hyphen character
abbrev pub ends_in_hyphen : ℤ → Sub → Bool
ends_in_hyphen hyphen (sub_char font code) = is_hyphen hyphen code
ends_in_hyphen hyphen (sub_lig font code covers) =
    option_map_or (is_hyphen hyphen) (slice_get covers (length covers - 1)) false
ends_in_hyphen hyphen (sub_kern width left) = false

abbrev pub empty_disc : Item
empty_disc = Disc (record { pre = []; post = []; whole = [] })

-- an empty discretionary follows a glyph whose last code is the hyphen character
abbrev pub with_break : ℤ → Sub → List Item
with_break hyphen sub = if ends_in_hyphen hyphen sub then item_of sub ∷ empty_disc ∷ [] else item_of sub ∷ []

-- the items of a run's glyphs
unfoldable pub run_items : ℕ → ℤ → ℤ → List ℕ → Option Glyph → List Glyph → List Item
run_items number size hyphen codes before glyphs = flat_map (with_break hyphen) (subs_of number size codes before glyphs)

-- why a run of these parts has no items
abbrev pub run_fault : List PartAt → LigFault → ParFault
run_fault parts (Missing index) = MissingChar (offset_at parts index)
run_fault parts TooManySteps = LigTooLong (offset_at parts 0)
run_fault parts NoMemory = no_memory

-- why a list of the discretionary at an offset has no items
abbrev pub disc_fault : ℕ → LigFault → ParFault
disc_fault offset (Missing index) = MissingChar offset
disc_fault offset TooManySteps = LigTooLong offset
disc_fault offset NoMemory = no_memory

abbrev pub run_end : ℕ → Font → List PartAt → Result (List Glyph) LigFault → Result (List Item) ParFault
run_end number font parts (Ok glyphs) = Ok (run_items number font.size font.codes.hyphen (run_codes parts) None glyphs)
run_end number font parts (Err fault) = Err (run_fault parts fault)

-- the items of the run that some parts begin with, set between both boundaries
abbrev pub run_given : ℕ → Font → List PartAt → Result (List Item) ParFault
run_given number font parts = run_end number font parts (outcome font.tfm (run_codes parts) true true)

abbrev pub list_end : ℕ → Font → ℕ → List ℕ → Result (List Glyph) LigFault → Result (List Sub) ParFault
list_end number font offset codes (Ok glyphs) = Ok (subs_of number font.size codes None glyphs)
list_end number font offset codes (Err fault) = Err (disc_fault offset fault)

-- a list of the discretionary at an offset, set between both boundaries
unfoldable pub list_given : ℕ → Font → ℕ → List ℕ → Result (List Sub) ParFault
list_given number font offset codes = list_end number font offset codes (outcome font.tfm codes true true)

-- the first fault of three lists, or the discretionary of them
abbrev pub disc_end : Result (List Sub) ParFault → Result (List Sub) ParFault → Result (List Sub) ParFault → Result (List Item) ParFault
disc_end (Err fault) post whole = Err fault
disc_end (Ok pre) (Err fault) whole = Err fault
disc_end (Ok pre) (Ok post) (Err fault) = Err fault
disc_end (Ok pre) (Ok post) (Ok whole) = Ok (Disc (record { pre = pre; post = post; whole = whole }) ∷ [])

abbrev pub disc_given : ℕ → Font → ℕ → ThreeLists ℕ → Result (List Item) ParFault
disc_given number font offset lists =
    disc_end (list_given number font offset lists.pre) (list_given number font offset lists.post)
    (list_given number font offset lists.whole)

-- a place at which a word may be hyphenated: a discretionary with the font's hyphen, if it has one
abbrev pub hyphen_sub : ℕ → Option ℕ → List Sub
hyphen_sub number None = []
hyphen_sub number (Some code) = sub_char number code ∷ []

abbrev pub hyphen_disc : ℕ → Font → Item
hyphen_disc number font =
    Disc (record { pre = hyphen_sub number (hyphen_of font.tfm font.codes.hyphen); post = []; whole = [] })

-- what text gives in the current font, and nothing where there is none
abbrev pub in_font : List Font → Option Current → (ℕ → Font → Result (List Item) ParFault) → Result (List Item) ParFault
in_font stock None give = Ok []
in_font stock (Some current) give =
    elim (slice_get stock current.font) as (λ _. Result (List Item) ParFault) [
      | None ↦ Ok []
      | Some font ↦ give current.font font
    ]

abbrev pub run_in : List Font → Option Current → List PartAt → Result (List Item) ParFault
run_in stock current parts = in_font stock current (λ number font. run_given number font parts)

abbrev pub disc_in : List Font → Option Current → ℕ → ThreeLists ℕ → Result (List Item) ParFault
disc_in stock current offset lists = in_font stock current (λ number font. disc_given number font offset lists)

abbrev pub hyphen_in : List Font → Option Current → Result (List Item) ParFault
hyphen_in stock current = in_font stock current (λ number font. Ok (hyphen_disc number font ∷ []))
