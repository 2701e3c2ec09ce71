-- A glyph that takes no more than its code.
--     plain_bytes    the bytes of a glyph that adjoins the one before, in the font that is selected
--     plain_after    it leaves the fonts as they are
--     plain_gathered its byte behind those that are gathered
use Rattle.std.proofs.Common.{◌≡◌, ℕ, ◌<◌, refl, ap, sym, ◌∙◌, arith, true, cond, nat_lt, List, [], ◌∷◌, ◌++◌, ℤ, pos, ◌-ℤ◌}
use Rattle.std.proofs.lemmas.Bool.Decides.{nat_tests}
use Rattle.std.proofs.lemmas.Int.{ints}
use Rattle.instance_core.specs.declared.cell.Cell.{Cell}
use Rattle.instance_core.specs.declared.page.Placed.{Placed}
use Rattle.dvi_write.specs.declared.row.FontRow.{FontRow}
use Rattle.dvi_write.specs.declared.fonts.Fonts.{Fonts}
use Rattle.dvi_write.specs.Commands.{spell, spell_all}
use Rattle.dvi_write.specs.Commands.Command.{SetChar, Set}
use Rattle.dvi_write.specs.Document.{right, set_code, is_selected}
use Rattle.dvi_write.specs.Output.{Output, grown}
use Rattle.dvi_write.specs.Writing.{font_bytes, font_after, glyph_bytes}
use Rattle.dvi_write.proofs.Grown.{grown_twice}

no_move : (x h : ℤ) → x ≡ h → spell_all (right (x -ℤ h)) ≡ []
unfolding spell_all right
no_move x h adjoins =
    let nothing : x -ℤ h ≡ pos 0 = omega (arith, ints) in
    ap (λ z. spell_all (right z)) nothing

no_font : (rows : List FontRow) (cells : List Cell) (fonts : Fonts) (c : Cell) → is_selected fonts.selected c ≡ true → font_bytes rows cells fonts c ≡ []
unfolding font_bytes
no_font rows cells fonts c selected = simp selected refl

code_itself : (code : ℕ) → code < 128 → spell (set_code code) ≡ code ∷ []
unfolding spell set_code
code_itself code low =
    let test : nat_lt code 128 ≡ true = grind (arith, nat_tests) in
    ap (λ b. spell (cond b (SetChar code) (Set 1 code))) test

pub plain_bytes : (rows : List FontRow) (cells : List Cell) (fonts : Fonts) (h : ℤ) (g : Placed) → g.x ≡ h → g.code < 128
    → is_selected fonts.selected g.cell ≡ true → glyph_bytes rows cells fonts h g ≡ g.code ∷ []
unfolding glyph_bytes
plain_bytes rows cells fonts h g adjoins low selected =
    λ i. no_move g.x h adjoins i ++ no_font rows cells fonts g.cell selected i ++ code_itself g.code low i

pub plain_after : (cells : List Cell) (fonts : Fonts) (c : Cell) → is_selected fonts.selected c ≡ true → font_after cells fonts c ≡ fonts
unfolding font_after
plain_after cells fonts c selected = simp selected refl

pub plain_gathered : (out : Output) (first whole more bytes : List ℕ) → whole ≡ first ++ more → bytes ≡ more → grown out whole ≡ grown (grown out first) bytes
plain_gathered out first whole more bytes set is =
    ap (grown out) set ∙ sym (grown_twice out first more) ∙ ap (grown (grown out first)) (sym is)
