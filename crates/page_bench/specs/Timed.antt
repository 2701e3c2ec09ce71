-- The pages that are timed.
--     instances          the instances of the one font that their lines are set in
--     IsTimedCell cell   it is one of them, and can be defined
--     IsTimed page       the page can be written, and all of its glyphs are of these instances
use Rattle.std.specs.Prelude.{◌≡◌, true, List, [], ◌∷◌, pos, negsuc, All}
use Rattle.instance_core.specs.declared.cell.Cell.{Cell}
use Rattle.instance_core.specs.declared.page.Placed.{Placed}
use Rattle.instance_core.specs.declared.page.PageLine.{PageLine}
use Rattle.instance_core.specs.declared.page.Page.{Page}
use Rattle.instance_core.specs.Cells.{cell_at, has_cell}
use Rattle.dvi_write.specs.declared.row.FontRow.{FontRow}
use Rattle.dvi_write.specs.Worked.{tiny10}
use Rattle.dvi_write.specs.Writable.{IsPlace, IsDefinable, IsGlyphWritable}

abbrev pub instances : List Cell
instances =
    cell_at 0 (negsuc 19) ∷ cell_at 0 (negsuc 12) ∷ cell_at 0 (negsuc 5) ∷ cell_at 0 (pos 0)
    ∷ cell_at 0 (pos 6) ∷ cell_at 0 (pos 13) ∷ cell_at 0 (pos 20) ∷ []

abbrev pub rows : List FontRow
rows = tiny10 ∷ []

pub record IsTimedCell (cell : Cell) : Type 0 where
  pub listed : has_cell instances cell ≡ true
  pub definable : IsDefinable rows cell

pub record IsTimedGlyph (glyph : Placed) : Type 0 where
  pub writable : IsGlyphWritable rows glyph
  pub listed : has_cell instances glyph.cell ≡ true

pub record IsTimedLine (placed : PageLine) : Type 0 where
  pub baseline : IsPlace placed.baseline
  pub glyphs : All IsTimedGlyph placed.line.glyphs

abbrev pub IsTimed : Page → Type 0
IsTimed page = All IsTimedLine page.lines
