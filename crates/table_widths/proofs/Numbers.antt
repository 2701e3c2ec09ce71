-- A cell and its number.
use Rattle.std.proofs.Common.{◌≡◌, ℕ, ◌∙◌, List, Some, pos}
use Rattle.std.specs.List.{slice_get}
use Rattle.std.proofs.lemmas.Option.{slice_get_within, get_or_from_slice_get}
use Rattle.std.proofs.lemmas.List.{get_or_default}
use Rattle.instance_core.specs.declared.cell.Cell.{Cell}
use Rattle.instance_core.specs.declared.font.BaseFont.{BaseFont}
use Rattle.instance_core.specs.Cells.{cells_of, cell_at, number_of, IsCellOf}
use Rattle.instance_table.specs.Places.{cell_count, cell_of_number}
use Rattle.table_widths.specs.Widths.{IsNumbered}

pub numbered : (fs : List BaseFont) (c : Cell) (n : ℕ) → slice_get (cells_of fs) n ≡ Some c → number_of fs c ≡ Some n → IsNumbered fs c n
unfolding cell_count cell_of_number
numbered fs c n found is = record {
  within = slice_get_within (cells_of fs) n c found;
  cell_is = get_or_from_slice_get (cells_of fs) n c (cell_at 0 (pos 0)) found;
  number_is = is;
}

pub numbered-cell : (fs : List BaseFont) (c : Cell) (n : ℕ) → IsNumbered fs c n → IsCellOf fs c
unfolding cell_count cell_of_number
numbered-cell fs c n numbered =
    (n, numbered.within, get_or_default (cells_of fs) n c (cell_at 0 (pos 0)) numbered.within ∙ numbered.cell_is)
