-- What small lists come to, by computing.
use Rattle.std.specs.Prelude.{◌≡◌, ℕ, refl, List, [], ◌∷◌, Some, None, false, ◌==◌, pos, negsuc, slice_index}
use Rattle.std.proofs.Common.{lit≤}
use Rattle.lig_kern.specs.declared.fault.LigFault.TheVariants.{Missing}
use Rattle.lig_kern.specs.declared.glyph.Glyph.TheVariants.{Char as glyph_char, Lig, Kern}
use Rattle.micro_num.specs.Plain.{plain_params, fil}
use Rattle.micro_num.specs.Scaling.{scaled, halvings, halvings_within}
use Rattle.micro_num.specs.declared.glue.Glue.{Glue}
use Rattle.micro_num.specs.declared.tables.Tables.{Tables}
use Rattle.font_stock.specs.declared.expand.Expand.{Expand}
use Rattle.font_stock.specs.declared.font.Font.{Font}
use Rattle.micro_num.specs.declared.paragraph.PartAt.{PartAt}
use Rattle.micro_num.specs.declared.part.Part.{Part}
use Rattle.micro_num.specs.declared.part.Part.TheVariants.{Char as char_part, Font as font_part}
use Rattle.hlist_build.specs.Mixing.{standing, first_other, other_than, mixed}
use Rattle.hlist_build.specs.Paragraph.{ended}
use Rattle.hlist_build.specs.Parts.{factor_from}
use Rattle.hlist_runs.specs.Runs.{subs_of}
use Rattle.hlist_build.specs.Runs.{run_items, run_fault, empty_disc}
use Rattle.hlist_build.specs.Spaces.{space_at}
use Rattle.hlist_build.specs.declared.current.Current.{Current}
use Rattle.hlist_build.specs.declared.fault.ParFault.TheVariants.{MissingChar}
use Rattle.hlist.specs.declared.item.Item.TheVariants.{Char, Lig as item_lig, FontKern, Glue as glue_item, Penalty}

-- the space of tiny10 and lig10 at 10pt
abbrev ten_point_space : Glue
ten_point_space = record { width = pos 163840; stretch = pos 81920; order = 0; shrink = pos 40960; order_exists = lit≤ tt }

abbrev glue : (width stretch shrink : ℕ) → Glue
glue width stretch shrink = record { width = pos width; stretch = pos stretch; order = 0; shrink = pos shrink; order_exists = lit≤ tt }

abbrev in_ten_points : Current
in_ten_points = record { font = 0; normal = ten_point_space; extra = pos 0 }

pub a_space_after_1250 : space_at plain_params in_ten_points 1250 ≡ glue 163840 102400 32768
unfolding plain_params
a_space_after_1250 = refl

pub a_space_after_3000 : space_at plain_params in_ten_points 3000 ≡ glue 163840 245760 13653
unfolding plain_params
a_space_after_3000 = refl

-- a kern between o and v expands with the o; one that begins its run doesn't
pub a_kern_expands_with_the_o : run_items 0 (pos 655360) (pos 45) (111 ∷ 118 ∷ []) None
    (glyph_char 111 0 ∷ Kern (negsuc 65535) ∷ glyph_char 118 1 ∷ [])
    ≡ Char 0 111 ∷ FontKern (negsuc 40959) (Some (record { font = 0; code = 111; fix = negsuc 65535 })) ∷ Char 0 118 ∷ []
unfolding subs_of run_items scaled halvings halvings_within
a_kern_expands_with_the_o = refl

pub a_kern_that_begins_a_run : run_items 0 (pos 655360) (pos 45) (113 ∷ []) None (Kern (negsuc 65535) ∷ glyph_char 113 0 ∷ [])
    ≡ FontKern (negsuc 40959) None ∷ Char 0 113 ∷ []
unfolding subs_of run_items scaled halvings halvings_within
a_kern_that_begins_a_run = refl

-- an empty discretionary follows the hyphen character, also as the last code of a ligature
pub a_place_after_a_hyphen : run_items 0 (pos 655360) (pos 45) (97 ∷ 45 ∷ 45 ∷ []) None (glyph_char 97 0 ∷ Lig 8 1 3 ∷ [])
    ≡ Char 0 97 ∷ item_lig 0 8 (45 ∷ 45 ∷ []) ∷ empty_disc ∷ []
unfolding subs_of run_items
a_place_after_a_hyphen = refl

-- a list ends in parfillskip, in place of a last space
pub a_last_space_is_replaced : ended fil (Char 0 97 ∷ glue_item ten_point_space ∷ [])
    ≡ Char 0 97 ∷ Penalty (pos 10000) ∷ glue_item fil ∷ []
unfolding ended
a_last_space_is_replaced = refl

pub an_empty_list_ends : ended fil [] ≡ Penalty (pos 10000) ∷ glue_item fil ∷ []
unfolding ended
an_empty_list_ends = refl

-- a space factor below 1000 goes no further than 1000
pub a_capital_and_a_full_stop : (tables : Tables) → slice_index tables.sfcode 46 ≡ 3000 → slice_index tables.sfcode 65 ≡ 999
    → factor_from tables 1000 (65 ∷ 46 ∷ []) ≡ 1000
a_capital_and_a_full_stop tables stop capital = rw (stop, capital) refl

pub a_letter_and_a_full_stop : (tables : Tables) → slice_index tables.sfcode 46 ≡ 3000 → slice_index tables.sfcode 97 ≡ 1000
    → factor_from tables 1000 (97 ∷ 46 ∷ []) ≡ 3000
a_letter_and_a_full_stop tables stop letter = rw (stop, letter) refl

-- ---- parts and fonts

abbrev part_at : ℕ → Part → PartAt
part_at offset part = record { offset = offset; part = part }

-- the first part whose character is missing is told
pub a_missing_character : run_fault (part_at 21 (char_part 200) ∷ part_at 30 (char_part 97) ∷ []) (Missing 0) ≡ MissingChar 21
a_missing_character = refl

-- a in a font, b in another that stretches further, and then the first font again
pub two_fonts_that_expand_otherwise : (f g : Font) (a b : Expand) → f.expand ≡ Some a → g.expand ≡ Some b
    → (a.stretch == b.stretch) ≡ false
    → mixed (record plain_params { pdfadjustspacing = pos 2 }) (f ∷ g ∷ [])
    (part_at 0 (font_part 0) ∷ part_at 1 (char_part 97) ∷ part_at 2 (font_part 1) ∷ part_at 3 (char_part 98) ∷ part_at 4 (font_part 0) ∷ [])
    ≡ Some 1
unfolding plain_params mixed standing first_other other_than
two_fonts_that_expand_otherwise f g a b is other further = rw (is, other, further) refl
