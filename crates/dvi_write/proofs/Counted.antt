-- Bytes that are counted and not kept.
--     grown_counting    what an output that counts becomes by more bytes
--     counted           it is what its count says
--     glyphs_counted    the count of glyphs, of which the first is counted by its parts
--     on_ok_counted     when nothing is left, what is counted is all
--     counted_step      and so what is counted, with what is left, stays the whole
use Rattle.std.proofs.Common.{◌≡◌, ℕ, ◌+◌, ◌<◌, ap, sym, ◌∙◌, arith, false, cond, List, ◌∷◌, ◌++◌, length, length-append, drop, get_or, ℤ, ◌+ℤ◌, ◌-ℤ◌}
use Rattle.std.proofs.lemmas.List.{drop_more}
use Rattle.std.specs.Prelude.{Result, Ok, Err, OnOk}
use Rattle.micro_num.specs.declared.memory.NoMemory.{NoMemory}
use Rattle.instance_core.specs.declared.cell.Cell.{Cell}
use Rattle.instance_core.specs.declared.page.Placed.{Placed}
use Rattle.dvi_write.specs.declared.row.FontRow.{FontRow}
use Rattle.dvi_write.specs.declared.fonts.Fonts.{Fonts}
use Rattle.dvi_write.specs.Commands.{spell, spell_all}
use Rattle.dvi_write.specs.Document.{right, set_code}
use Rattle.dvi_write.specs.Output.{Output, grown}
use Rattle.dvi_write.specs.Writing.{font_bytes, font_after, glyph_bytes, glyphs_bytes}

pub record Counts (out next : Output) (xs : List ℕ) : Type 0 where
  pub kept : next.kept ≡ false
  pub bytes : next.bytes ≡ out.bytes
  pub count : next.length ≡ out.length + length xs

pub grown_counting : (out next : Output) (xs : List ℕ) → out.kept ≡ false → next ≡ grown out xs → Counts out next xs
unfolding grown
grown_counting out next xs counting is = record {
  kept = ap (λ (o : Output). o.kept) is ∙ counting;
  bytes = ap (λ (o : Output). o.bytes) is ∙ ap (λ b. cond b (out.bytes ++ xs) out.bytes) counting;
  count = ap (λ (o : Output). o.length) is;
}

pub counted : (out next : Output) (xs : List ℕ) → out.kept ≡ false → Counts out next xs → next ≡ grown out xs
unfolding grown
counted out next xs counting counts = λ i. record {
  kept = (counts.kept ∙ sym counting) i;
  length = counts.count i;
  bytes = (counts.bytes ∙ ap (λ b. cond b (out.bytes ++ xs) out.bytes) (sym counting)) i;
}

glyph_counted : (rows : List FontRow) (cells : List Cell) (fonts : Fonts) (h : ℤ) (g : Placed)
    → length (glyph_bytes rows cells fonts h g)
    ≡ length (font_bytes rows cells fonts g.cell) + (length (spell_all (right (g.x -ℤ h))) + length (spell (set_code g.code)))
unfolding glyph_bytes
glyph_counted rows cells fonts h g =
    omega (
      arith,
      length-append (spell_all (right (g.x -ℤ h))) (font_bytes rows cells fonts g.cell),
      length-append (spell_all (right (g.x -ℤ h)) ++ font_bytes rows cells fonts g.cell) (spell (set_code g.code)),
    )

pub glyphs_counted : (rows : List FontRow) (cells : List Cell) (fonts after : Fonts) (h edge : ℤ) (glyphs : List Placed) (i : ℕ) (g d : Placed)
    → i < length glyphs → g ≡ get_or glyphs i d → after ≡ font_after cells fonts g.cell → edge ≡ g.x +ℤ g.advance
    → length (glyphs_bytes rows cells fonts h (drop i glyphs))
    ≡ length (font_bytes rows cells fonts g.cell) + (length (spell_all (right (g.x -ℤ h))) + length (spell (set_code g.code)))
    + length (glyphs_bytes rows cells after edge (drop (i + 1) glyphs))
glyphs_counted rows cells fonts after h edge glyphs i g d inside is then edge_is =
    ap (λ rest. length (glyphs_bytes rows cells fonts h rest)) (drop_more glyphs i d inside ∙ ap (λ x. x ∷ drop (i + 1) glyphs) (sym is))
    ∙ length-append (glyph_bytes rows cells fonts h g) (glyphs_bytes rows cells (font_after cells fonts g.cell) (g.x +ℤ g.advance) (drop (i + 1) glyphs))
    ∙ (λ k. glyph_counted rows cells fonts h g k + length (glyphs_bytes rows cells (sym then k) (sym edge_is k) (drop (i + 1) glyphs)))

pub counted_step : (next out counted more font move code rest left all : ℕ) → next ≡ out + font → more ≡ move + code
    → left ≡ font + (move + code) + rest → out + counted + left ≡ all → next + (counted + more) + rest ≡ all
counted_step next out counted more font move code rest left all put was parts whole = omega arith

-- when nothing is left, what is counted is all
pub on_ok_counted : {A : Type 0} (result : Result A NoMemory) (out mid last : Output) (counts : ℕ) (xs : List ℕ) → out.kept ≡ false
    → OnOk result (last.kept ≡ false) → OnOk result (last.length ≡ mid.length + counts) → OnOk result (last.bytes ≡ mid.bytes)
    → mid.bytes ≡ out.bytes → mid.length + counts + 0 ≡ out.length + length xs → OnOk result (last ≡ grown out xs)
on_ok_counted (Ok done) out mid last counts xs counting kept grows same was whole =
    counted out last xs counting (record { kept = kept; bytes = same ∙ was; count = omega (arith, grows, whole) })
on_ok_counted (Err refused) out mid last counts xs counting kept grows same was whole = tt
