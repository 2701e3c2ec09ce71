-- The cells of pages that can be written: each is numbered and can be defined.
use Rattle.std.proofs.Common.{◌≡◌, ℕ, zero, suc, ◌<◌, refl, ap, ◌∙◌, arith, Bool, true, false, ◌||◌, List, [], ◌∷◌, length, map, get_or}
use Rattle.std.specs.List.{All}
use Rattle.instance_core.specs.declared.cell.Cell.{Cell}
use Rattle.instance_core.specs.declared.page.Placed.{Placed}
use Rattle.instance_core.specs.declared.page.PageLine.{PageLine}
use Rattle.instance_core.specs.declared.page.Page.{Page}
use Rattle.instance_core.specs.Cells.{has_cell}
use Rattle.instance_core.proofs.CellNumbers.{same_cell-self}
use Rattle.renumber.specs.Uses.{cells_of_line, cells_of_lines, cells_of_pages, first_uses}
use Rattle.renumber.proofs.InsertedCells.{has_cell-append}
use Rattle.renumber.proofs.UsedCells.{has_cell-first_uses, all_of_pages, all_of_first_uses}
use Rattle.dvi_write.specs.declared.row.FontRow.{FontRow}
use Rattle.dvi_write.specs.Writable.{IsDefinable, IsWritable, IsPuttable}

either_left : (a b : Bool) → a ≡ true → a || b ≡ true
either_left a b is = ap (λ x. x || b) is

either_right : (a b : Bool) → b ≡ true → a || b ≡ true
either_right true b is = refl
either_right false b is = is

has_in_line : (glyphs : List Placed) (k : ℕ) (d : Placed) → k < length glyphs → has_cell (map (λ (g : Placed). g.cell) glyphs) (get_or glyphs k d).cell ≡ true
has_in_line [] k d inside = absurd (omega arith)
has_in_line (g ∷ gs) zero d inside = either_left _ _ (same_cell-self g.cell)
has_in_line (g ∷ gs) (suc k) d inside = either_right _ _ (has_in_line gs k d (omega arith))

has_in_lines : (lines : List PageLine) (k : ℕ) (d : PageLine) (c : Cell) → k < length lines
    → has_cell (cells_of_line (get_or lines k d).line) c ≡ true → has_cell (cells_of_lines lines) c ≡ true
has_in_lines [] k d c inside has = absurd (omega arith)
has_in_lines (l ∷ ls) zero d c inside has =
    has_cell-append (cells_of_line l.line) (cells_of_lines ls) c ∙ either_left _ _ has
has_in_lines (l ∷ ls) (suc k) d c inside has =
    has_cell-append (cells_of_line l.line) (cells_of_lines ls) c ∙ either_right _ _ (has_in_lines ls k d c (omega arith) has)

has_in_pages : (pages : List Page) (k : ℕ) (d : Page) (c : Cell) → k < length pages
    → has_cell (cells_of_lines (get_or pages k d).lines) c ≡ true → has_cell (cells_of_pages pages) c ≡ true
has_in_pages [] k d c inside has = absurd (omega arith)
has_in_pages (p ∷ ps) zero d c inside has =
    has_cell-append (cells_of_lines p.lines) (cells_of_pages ps) c ∙ either_left _ _ has
has_in_pages (p ∷ ps) (suc k) d c inside has =
    has_cell-append (cells_of_lines p.lines) (cells_of_pages ps) c ∙ either_right _ _ (has_in_pages ps k d c (omega arith) has)

pub puttable : (rows : List FontRow) (pages : List Page) (cells : List Cell) → All (IsWritable rows) pages
    → cells ≡ first_uses (cells_of_pages pages) → All (IsPuttable rows cells) pages
puttable rows pages cells writable numbered k page_d k_inside l line_d l_inside =
    let page = get_or pages k page_d in
    let line = writable k page_d k_inside l line_d l_inside in
    record {
      baseline = line.baseline;
      glyphs = λ g glyph_d g_inside. record {
        writable = line.glyphs g glyph_d g_inside;
        numbered =
            ap (λ cs. has_cell cs (get_or (get_or (get_or pages k page_d).lines l line_d).line.glyphs g glyph_d).cell) numbered
            ∙ has_cell-first_uses (cells_of_pages pages) (get_or (get_or (get_or pages k page_d).lines l line_d).line.glyphs g glyph_d).cell
            ∙ has_in_pages pages k page_d _ k_inside
            (has_in_lines (get_or pages k page_d).lines l line_d _ l_inside
            (has_in_line (get_or (get_or pages k page_d).lines l line_d).line.glyphs g glyph_d g_inside));
      };
    }

pub definable : (rows : List FontRow) (pages : List Page) (cells : List Cell) → All (IsWritable rows) pages
    → cells ≡ first_uses (cells_of_pages pages) → All (IsDefinable rows) cells
definable rows pages cells writable numbered =
    rw numbered (
    all_of_first_uses (IsDefinable rows) (cells_of_pages pages) (
    all_of_pages (IsDefinable rows) pages (λ k page_d k_inside l line_d l_inside g glyph_d g_inside.
    ((writable k page_d k_inside l line_d l_inside).glyphs g glyph_d g_inside).font)
    )
    )
