-- What is kept beside the fonts of instances, so that a cell's number is a look-up.
--     AreNumbered fonts firsts cells   the number of each font's first cell, and how many cells there are
use Rattle.std.specs.Prelude.{◌≡◌, ℕ, ◌<◌, List, length, take, slice_index}
use Rattle.instance_core.specs.declared.font.BaseFont.{BaseFont}
use Rattle.instance_core.specs.Bases.{AreBases}
use Rattle.instance_core.specs.Cells.{cells_of}

pub record AreNumbered (fonts : List BaseFont) (firsts : List ℕ) (cells : ℕ) : Type 0 where
  pub bases : AreBases fonts
  pub count : length firsts ≡ length fonts
  pub first : (font : ℕ) → font < length fonts → slice_index firsts font ≡ length (cells_of (take font fonts))
  pub all : cells ≡ length (cells_of fonts)
