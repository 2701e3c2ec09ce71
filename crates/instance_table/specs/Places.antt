-- Where the words of a table lie, and what they stand for. Word 0 counts the draws. Each cell has a state and then 256
-- widths. A state is 0 for empty, 1 for built, and n + 2 where the seat of number n claimed the cell.
--     cell_count bases             how many cells there are
--     state_place cell             the place of a cell's state
--     width_place cell code        the place of a width
--     state words cell             a cell's state
--     IsStored bases cell code w   the word w stands for the width of a code in a cell's instance
--     IsBuilt bases words cell k   the first k widths of a cell are stored
use Rattle.std.specs.Prelude.{◌≡◌, ℕ, ◌+◌, ◌*◌, ◌<◌, pos, ◌+ℤ◌, List, length, slice_index, slice_index_or}
use Rattle.instance_core.specs.declared.font.BaseFont.{BaseFont}
use Rattle.instance_core.specs.declared.cell.Cell.{Cell}
use Rattle.instance_core.specs.Cells.{cells_of, cell_at}
use Rattle.instance_core.specs.Instances.{instance_width}

unfoldable pub cell_count : List BaseFont → ℕ
cell_count bases = length (cells_of bases)

unfoldable pub cell_of_number : List BaseFont → ℕ → Cell
cell_of_number bases number = slice_index_or (cells_of bases) number (cell_at 0 (pos 0))

abbrev pub word_count : List BaseFont → ℕ
word_count bases = 1 + 257 * cell_count bases

abbrev pub state_place : ℕ → ℕ
state_place cell = 1 + 257 * cell

abbrev pub width_place : ℕ → ℕ → ℕ
width_place cell code = 2 + 257 * cell + code

abbrev pub state : List ℕ → ℕ → ℕ
state words cell = slice_index words (state_place cell)

abbrev pub stored_width : List ℕ → ℕ → ℕ → ℕ
stored_width words cell code = slice_index words (width_place cell code)

-- a width is stored as 2^31 more than it is, in 32 bits
unfoldable pub IsStored : List BaseFont → ℕ → ℕ → ℕ → Type 0
IsStored bases cell code word = (word < 4294967296) × (pos word ≡ instance_width bases (cell_of_number bases cell) code +ℤ pos 2147483648)

abbrev pub IsBuilt : List BaseFont → List ℕ → ℕ → ℕ → Type 0
IsBuilt bases words cell k = (code : ℕ) → code < k → IsStored bases cell code (stored_width words cell code)
