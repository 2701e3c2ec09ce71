-- What pages must meet so that they can be written as a DVI file.
--     IsPlace z              a place on a page, within 2^30 - 1 of its corner
--     IsDefinable rows cell  the cell's font has a row, and its instance's name at most 255 bytes
--     IsWritable rows page   baselines and the edges of glyphs are places; each glyph's font is definable
--     IsTooLong size limit   what a refusal says of a file of this size
use Rattle.std.specs.Prelude.{ℕ, ◌<◌, ◌≤◌, ◌≡◌, ⊤, List, length, true, ℤ, pos, negsuc, ◌+ℤ◌, ◌≤ℤ◌, All}
use Rattle.instance_core.specs.declared.cell.Cell.{Cell}
use Rattle.instance_core.specs.Cells.{has_cell}
use Rattle.instance_core.specs.declared.page.Placed.{Placed}
use Rattle.instance_core.specs.declared.page.PageLine.{PageLine}
use Rattle.instance_core.specs.declared.page.Page.{Page}
use Rattle.dvi_write.specs.declared.row.FontRow.{FontRow}
use Rattle.dvi_write.specs.declared.fault.DviFault.{DviFault}
use Rattle.dvi_write.specs.declared.fault.DviFault.TheVariants.{TooLong, NoMemory}
use Rattle.dvi_write.specs.Document.{row_of, instance_name}

pub record IsPlace (place : ℤ) : Type 0 where
  pub low : negsuc 1073741822 ≤ℤ place
  pub high : place ≤ℤ pos 1073741823

pub record IsDefinable (rows : List FontRow) (cell : Cell) : Type 0 where
  pub has_row : cell.font < length rows
  pub name : length (instance_name (row_of rows cell) cell) ≤ 255

pub record IsGlyphWritable (rows : List FontRow) (glyph : Placed) : Type 0 where
  pub left : IsPlace glyph.x
  pub right : IsPlace (glyph.x +ℤ glyph.advance)
  pub font : IsDefinable rows glyph.cell

pub record IsLineWritable (rows : List FontRow) (placed : PageLine) : Type 0 where
  pub baseline : IsPlace placed.baseline
  pub glyphs : All (IsGlyphWritable rows) placed.line.glyphs

abbrev pub IsWritable : List FontRow → Page → Type 0
IsWritable rows page = All (IsLineWritable rows) page.lines

-- A refusal is want of memory, or it gives the file's size, which is above the limit.
abbrev pub IsTooLong : ℕ → ℕ → DviFault → Type 0
IsTooLong size limit (TooLong bytes) = (bytes ≡ size) × (limit < size)
IsTooLong size limit NoMemory = ⊤

-- the same, of pages whose cells are those of a numbering
pub record IsGlyphPuttable (rows : List FontRow) (cells : List Cell) (glyph : Placed) : Type 0 where
  pub writable : IsGlyphWritable rows glyph
  pub numbered : has_cell cells glyph.cell ≡ true

pub record IsLinePuttable (rows : List FontRow) (cells : List Cell) (placed : PageLine) : Type 0 where
  pub baseline : IsPlace placed.baseline
  pub glyphs : All (IsGlyphPuttable rows cells) placed.line.glyphs

abbrev pub IsPuttable : List FontRow → List Cell → Page → Type 0
IsPuttable rows cells page = All (IsLinePuttable rows cells) page.lines
