-- What holds of each page whose lines were set with the fonts of a stock.
--     IsCellOver stock cell     its font is in the stock, as it is or as one of its instances
--     IsGlyphOver stock glyph   both edges of a glyph are places on a page, and its cell is such
--     IsSetOver stock line      so is each glyph of a set line
--     IsPageOver stock page     and of a page, whose baselines are places
use Rattle.std.specs.Prelude.{◌≡◌, ◌<◌, ◌⊎◌, pos, ◌+ℤ◌, List, length, map, All}
use Rattle.font_stock.specs.declared.font.Font.{Font}
use Rattle.instance_core.specs.Cells.{IsCellOf}
use Rattle.instance_core.specs.declared.cell.Cell.{Cell}
use Rattle.instance_core.specs.declared.page.Packed.{Packed}
use Rattle.instance_core.specs.declared.page.Page.{Page}
use Rattle.instance_core.specs.declared.page.PageLine.{PageLine}
use Rattle.instance_core.specs.declared.page.Placed.{Placed}
use Rattle.hpack_two.specs.Over.{base_of}
use Rattle.dvi_write.specs.Writable.{IsPlace}

pub record IsCellOver (stock : List Font) (cell : Cell) : Type 0 where
  pub font : cell.font < length stock
  pub step : (cell.step ≡ pos 0) ⊎ IsCellOf (map base_of stock) cell

pub record IsGlyphOver (stock : List Font) (glyph : Placed) : Type 0 where
  pub left : IsPlace glyph.x
  pub right : IsPlace (glyph.x +ℤ glyph.advance)
  pub cell : IsCellOver stock glyph.cell

abbrev pub IsSetOver : List Font → Packed → Type 0
IsSetOver stock line = All (IsGlyphOver stock) line.glyphs

pub record IsLineOver (stock : List Font) (placed : PageLine) : Type 0 where
  pub baseline : IsPlace placed.baseline
  pub glyphs : IsSetOver stock placed.line

abbrev pub IsPageOver : List Font → Page → Type 0
IsPageOver stock page = All (IsLineOver stock) page.lines
