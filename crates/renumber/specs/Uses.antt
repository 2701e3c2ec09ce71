-- The cells that the glyphs of pages have, in reading order, and which of them come first.
--     cells_of_line, cells_of_lines, cells_of_pages   the cells of all glyphs
--     first_uses cells     the list without repeats: each cell where it comes first
--     number_in cells cell the place of a cell in a list
--     used fonts pages     the instances that the pages use, in cell order
use Rattle.std.specs.Prelude.{ℕ, pos, not, List, [], ◌∷◌, map, filter, position, Option}
use Rattle.std.specs.List.{flat_map}
use Rattle.std.specs.Ordering.{int_eq}
use Rattle.instance_core.specs.declared.cell.Cell.{Cell}
use Rattle.instance_core.specs.declared.font.BaseFont.{BaseFont}
use Rattle.instance_core.specs.declared.page.Placed.{Placed}
use Rattle.instance_core.specs.declared.page.Packed.{Packed}
use Rattle.instance_core.specs.declared.page.PageLine.{PageLine}
use Rattle.instance_core.specs.declared.page.Page.{Page}
use Rattle.instance_core.specs.Cells.{same_cell, in_cell_order}

abbrev pub cells_of_line : Packed → List Cell
cells_of_line line = map (λ (glyph : Placed). glyph.cell) line.glyphs

abbrev pub cells_of_lines : List PageLine → List Cell
cells_of_lines lines = flat_map (λ (placed : PageLine). cells_of_line placed.line) lines

abbrev pub cells_of_pages : List Page → List Cell
cells_of_pages pages = flat_map (λ (page : Page). cells_of_lines page.lines) pages

-- the first cell, and of those after it the first uses of other cells
unfoldable pub first_uses : List Cell → List Cell
first_uses [] = []
first_uses (c ∷ cs) = c ∷ filter (λ d. not (same_cell d c)) (first_uses cs)

abbrev pub number_in : List Cell → Cell → Option ℕ
number_in cells cell = position (same_cell cell) cells

-- a font as it is, at step 0, is no instance
abbrev pub used : List BaseFont → List Page → List Cell
used fonts pages = in_cell_order fonts (filter (λ c. not (int_eq c.step (pos 0))) (first_uses (cells_of_pages pages)))
