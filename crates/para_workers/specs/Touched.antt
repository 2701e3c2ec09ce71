-- Which cells the setting of lines asks for.
--     cells_on lines, cells_of_page page, cells_of_all pages
--                                          the cells of all glyphs that are expanded
--     TouchedSome                          the first so many cells of some lines were asked for
--     TouchedByLine, TouchedByLines, TouchedByPage
--                                          those of what was set, and at a fault some of them
use Rattle.std.specs.Prelude.{◌≡◌, ℕ, List, ◌++◌, flat_map, Result, Ok, Err}
use Rattle.hlist_build.specs.declared.fault.ParFault.{ParFault}
use Rattle.break_rule.specs.Fits.{Rule}
use Rattle.break_rule.specs.declared.line.From.{From}
use Rattle.instance_core.specs.declared.cell.Cell.{Cell}
use Rattle.instance_core.specs.declared.font.BaseFont.{BaseFont}
use Rattle.instance_core.specs.declared.page.Packed.{Packed}
use Rattle.instance_core.specs.declared.page.PageLine.{PageLine}
use Rattle.instance_core.specs.declared.page.Page.{Page}
use Rattle.hpack_two.specs.Answers.{touched_with}
use Rattle.hpack_two.specs.Lines.{stepped}
use Rattle.para_workers.specs.SetPar.{set_line_between}

unfoldable pub cells_on : List Packed → List Cell
cells_on lines = flat_map (λ (line : Packed). stepped line.glyphs) lines

unfoldable pub cells_of_page : Page → List Cell
cells_of_page page = flat_map (λ (placed : PageLine). stepped placed.line.glyphs) page.lines

-- some cells of a list, from its first on, were asked for
pub record TouchedSome (cells : List Cell) (bases : List BaseFont)
    (before after : List Cell) : Type 0 where
  pub asked : List Cell
  pub unasked : List Cell
  pub all : asked ++ unasked ≡ cells
  pub touched : after ≡ touched_with bases asked before

-- one line
abbrev pub TouchedByLine : Rule → ℕ → From → ℕ → List BaseFont → List Cell → List Cell
    → Result Packed ParFault → Type 0
TouchedByLine rule number from to bases before after (Ok line) =
    after ≡ touched_with bases (stepped line.glyphs) before
TouchedByLine rule number from to bases before after (Err fault) =
    TouchedSome (stepped (set_line_between rule number from to).glyphs) bases before after

-- lines, at a fault some of all
abbrev pub TouchedByLines : List Packed → List BaseFont → List Cell → List Cell
    → Result (List Packed) ParFault → Type 0
TouchedByLines all bases before after (Ok lines) =
    after ≡ touched_with bases (cells_on lines) before
TouchedByLines all bases before after (Err fault) = TouchedSome (cells_on all) bases before after

-- the page of all lines
abbrev pub TouchedByPage : List Packed → List BaseFont → List Cell → List Cell
    → Result Page ParFault → Type 0
TouchedByPage all bases before after (Ok page) =
    after ≡ touched_with bases (cells_of_page page) before
TouchedByPage all bases before after (Err fault) = TouchedSome (cells_on all) bases before after

-- of all pages
unfoldable pub cells_of_all : List Page → List Cell
cells_of_all pages = flat_map cells_of_page pages
