-- The entries of a discretionary's list: the glyphs of a run in a font (TeX: The Program, sections 1032 to 1040,
-- and 1117).
use Rattle.std.specs.Prelude.{ℕ, ℤ, Bool, List, [], ◌∷◌, Option, Some, None, Result, Ok, Err, slice_range}
use Rattle.lig_kern.specs.Outcome.{outcome}
use Rattle.lig_kern.specs.declared.fault.LigFault.{LigFault}
use Rattle.lig_kern.specs.declared.glyph.Glyph.{Glyph}
use Rattle.lig_kern.specs.declared.glyph.Glyph.TheVariants.{Char, Lig, Kern}
use Rattle.micro_num.specs.Scaling.{scaled}
use Rattle.tfm_read.specs.declared.tfm.Tfm.{Tfm}
use Rattle.hlist.specs.declared.item.KernLeft.{KernLeft}
use Rattle.hlist.specs.declared.item.Sub.{Sub}
use Rattle.hlist.specs.declared.item.Sub.TheVariants.{Char as sub_char, Lig as sub_lig, FontKern as sub_kern}

-- a font kern expands with the character or ligature directly before it in its run, if there is one
abbrev pub left_of : ℕ → Option Glyph → ℤ → Option KernLeft
left_of font None fix = None
left_of font (Some (Char code at)) fix = Some (record { font = font; code = code; fix = fix })
left_of font (Some (Lig code from to)) fix = Some (record { font = font; code = code; fix = fix })
left_of font (Some (Kern other)) fix = None

-- a glyph of a run of codes in font `number` at a size, behind another glyph of the run or none
abbrev pub sub_of : ℕ → ℤ → List ℕ → Option Glyph → Glyph → Sub
sub_of number size codes before (Char code at) = sub_char number code
sub_of number size codes before (Lig code from to) = sub_lig number code (slice_range codes from to)
sub_of number size codes before (Kern fix) = sub_kern (scaled fix size) (left_of number before fix)

-- the glyphs of a run, behind another glyph of it or none
unfoldable pub subs_of : ℕ → ℤ → List ℕ → Option Glyph → List Glyph → List Sub
subs_of number size codes before [] = []
subs_of number size codes before (glyph ∷ glyphs) =
    sub_of number size codes before glyph ∷ subs_of number size codes (Some glyph) glyphs

abbrev pub list_end : ℕ → ℤ → List ℕ → Result (List Glyph) LigFault → Result (List Sub) LigFault
list_end number size codes (Ok glyphs) = Ok (subs_of number size codes None glyphs)
list_end number size codes (Err fault) = Err fault

-- the list that a run of codes gives in the font of a number, with its metrics and its size
unfoldable pub run_subs : ℕ → Tfm → ℤ → List ℕ → (left right : Bool) → Result (List Sub) LigFault
run_subs number tfm size codes left right = list_end number size codes (outcome tfm codes left right)
