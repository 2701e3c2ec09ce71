-- A step of each loop that writes: what is written, with what is left, is the whole.
use Rattle.std.proofs.Common.{◌≡◌, ℕ, ◌+◌, ◌<◌, refl, ap, sym, ◌∙◌, List, [], ◌∷◌, ◌++◌, length, map, drop, get_or, ℤ, ◌+ℤ◌, Option, Some}
use Rattle.std.proofs.lemmas.List.{drop_more}
use Rattle.instance_core.specs.declared.cell.Cell.{Cell}
use Rattle.instance_core.specs.declared.page.Placed.{Placed}
use Rattle.instance_core.specs.declared.page.PageLine.{PageLine}
use Rattle.instance_core.specs.declared.page.Page.{Page}
use Rattle.renumber.specs.Uses.{cells_of_line, cells_of_lines}
use Rattle.dvi_write.specs.declared.row.FontRow.{FontRow}
use Rattle.dvi_write.specs.declared.fonts.Fonts.{Fonts}
use Rattle.dvi_write.specs.Output.{Output, grown}
use Rattle.dvi_write.specs.Writing.{glyph_bytes, glyphs_bytes, line_bytes, lines_bytes, page_bytes, pages_bytes, last_page, font_after, fonts_after, defined_after}
use Rattle.dvi_write.proofs.Grown.{grown_twice}

pub fonts_after-append : (cells : List Cell) (fonts : Fonts) (xs ys : List Cell) → fonts_after cells fonts (xs ++ ys) ≡ fonts_after cells (fonts_after cells fonts xs) ys
fonts_after-append cells fonts [] ys = refl
fonts_after-append cells fonts (x ∷ xs) ys = fonts_after-append cells (font_after cells fonts x) xs ys

pub glyphs_step : (rows : List FontRow) (cells : List Cell) (out next : Output) (fonts after : Fonts) (h edge : ℤ) (glyphs : List Placed) (i : ℕ) (g d : Placed)
    → i < length glyphs → g ≡ get_or glyphs i d → next ≡ grown out (glyph_bytes rows cells fonts h g) → after ≡ font_after cells fonts g.cell
    → edge ≡ g.x +ℤ g.advance
    → grown next (glyphs_bytes rows cells after edge (drop (i + 1) glyphs)) ≡ grown out (glyphs_bytes rows cells fonts h (drop i glyphs))
glyphs_step rows cells out next fonts after h edge glyphs i g d inside is wrote then edge_is =
    (λ k. grown (wrote k) (glyphs_bytes rows cells (then k) (edge_is k) (drop (i + 1) glyphs)))
    ∙ grown_twice out (glyph_bytes rows cells fonts h g) (glyphs_bytes rows cells (font_after cells fonts g.cell) (g.x +ℤ g.advance) (drop (i + 1) glyphs))
    ∙ ap (λ rest. grown out (glyphs_bytes rows cells fonts h rest)) (sym (drop_more glyphs i d inside ∙ ap (λ x. x ∷ drop (i + 1) glyphs) (sym is)))

pub glyph_fonts_step : (cells : List Cell) (fonts after : Fonts) (glyphs : List Placed) (i : ℕ) (g d : Placed)
    → i < length glyphs → g ≡ get_or glyphs i d → after ≡ font_after cells fonts g.cell
    → fonts_after cells after (map (λ (x : Placed). x.cell) (drop (i + 1) glyphs)) ≡ fonts_after cells fonts (map (λ (x : Placed). x.cell) (drop i glyphs))
glyph_fonts_step cells fonts after glyphs i g d inside is then =
    ap (λ f. fonts_after cells f (map (λ (x : Placed). x.cell) (drop (i + 1) glyphs))) then
    ∙ ap (λ rest. fonts_after cells fonts (map (λ (x : Placed). x.cell) rest)) (sym (drop_more glyphs i d inside ∙ ap (λ x. x ∷ drop (i + 1) glyphs) (sym is)))

pub lines_step : (rows : List FontRow) (cells : List Cell) (out next : Output) (fonts after : Fonts) (v : ℤ) (lines : List PageLine) (i : ℕ) (l : PageLine)
    → i < length lines → l ≡ get_or lines i l → next ≡ grown out (line_bytes rows cells fonts v l) → after ≡ fonts_after cells fonts (cells_of_line l.line)
    → grown next (lines_bytes rows cells after l.baseline (drop (i + 1) lines)) ≡ grown out (lines_bytes rows cells fonts v (drop i lines))
lines_step rows cells out next fonts after v lines i l inside is wrote then =
    (λ k. grown (wrote k) (lines_bytes rows cells (then k) l.baseline (drop (i + 1) lines)))
    ∙ grown_twice out (line_bytes rows cells fonts v l) (lines_bytes rows cells (fonts_after cells fonts (cells_of_line l.line)) l.baseline (drop (i + 1) lines))
    ∙ ap (λ rest. grown out (lines_bytes rows cells fonts v rest)) (sym (drop_more lines i l inside ∙ ap (λ x. x ∷ drop (i + 1) lines) (sym is)))

pub line_fonts_step : (cells : List Cell) (fonts after : Fonts) (lines : List PageLine) (i : ℕ) (l : PageLine)
    → i < length lines → l ≡ get_or lines i l → after ≡ fonts_after cells fonts (cells_of_line l.line)
    → fonts_after cells after (cells_of_lines (drop (i + 1) lines)) ≡ fonts_after cells fonts (cells_of_lines (drop i lines))
line_fonts_step cells fonts after lines i l inside is then =
    ap (λ f. fonts_after cells f (cells_of_lines (drop (i + 1) lines))) then
    ∙ sym (fonts_after-append cells fonts (cells_of_line l.line) (cells_of_lines (drop (i + 1) lines)))
    ∙ ap (λ rest. fonts_after cells fonts (cells_of_lines rest)) (sym (drop_more lines i l inside ∙ ap (λ x. x ∷ drop (i + 1) lines) (sym is)))

-- how many bytes an output has after more
pub length_grown : (out next : Output) (xs : List ℕ) → next ≡ grown out xs → next.length ≡ out.length + length xs
unfolding grown
length_grown out next xs is = ap (λ (o : Output). o.length) is

pub pages_step : (rows : List FontRow) (cells : List Cell) (out next : Output) (defined after number : ℕ) (previous : Option ℕ) (pages : List Page) (i : ℕ) (p : Page)
    → i < length pages → p ≡ get_or pages i p → next ≡ grown out (page_bytes rows cells defined number previous p) → after ≡ defined_after cells defined p
    → grown next (pages_bytes rows cells after next.length (number + 1) (Some out.length) (drop (i + 1) pages))
    ≡ grown out (pages_bytes rows cells defined out.length number previous (drop i pages))
pages_step rows cells out next defined after number previous pages i p inside is wrote then =
    (λ k. grown (wrote k) (pages_bytes rows cells (then k) (length_grown out next (page_bytes rows cells defined number previous p) wrote k) (number + 1) (Some out.length) (drop (i + 1) pages)))
    ∙ grown_twice out (page_bytes rows cells defined number previous p) _
    ∙ ap (λ rest. grown out (pages_bytes rows cells defined out.length number previous rest)) (sym (drop_more pages i p inside ∙ ap (λ x. x ∷ drop (i + 1) pages) (sym is)))

pub last_step : (rows : List FontRow) (cells : List Cell) (out next : Output) (defined after number : ℕ) (previous : Option ℕ) (pages : List Page) (i : ℕ) (p : Page)
    → i < length pages → p ≡ get_or pages i p → next ≡ grown out (page_bytes rows cells defined number previous p) → after ≡ defined_after cells defined p
    → last_page rows cells after next.length (number + 1) (Some out.length) (drop (i + 1) pages)
    ≡ last_page rows cells defined out.length number previous (drop i pages)
last_step rows cells out next defined after number previous pages i p inside is wrote then =
    (λ k. last_page rows cells (then k) (length_grown out next (page_bytes rows cells defined number previous p) wrote k) (number + 1) (Some out.length) (drop (i + 1) pages))
    ∙ ap (λ rest. last_page rows cells defined out.length number previous rest) (sym (drop_more pages i p inside ∙ ap (λ x. x ∷ drop (i + 1) pages) (sym is)))
