-- Widths that a seat reads over a table.
--     touched_of bases seen        the cells of a seat's list, in cell order
--     Lasting                      what no width changes: the table, and of the seat its number and what it drew
--     IsNumbered bases cell n      the table has the cell, under this number
--     HasNumber bases it           a cell and its number are such
--     HasClaimed, HasPublished     the seat has just claimed a cell, and has just published it
--     Keeps v w                    what a seat that builds a cell keeps of its view
--     IsAnswered number cell code last    the last step gave this width, or found the cell held by another seat
--     Answers                      what a width over a table is, and what the seat knows after it
use Rattle.std.specs.Prelude.{◌≡◌, ◌≢◌, ℕ, ◌+◌, ◌<◌, ◌≤◌, Bool, ℤ, List, [], ◌∷◌, ◌++◌, map, Some, None, Contains}
use Rattle.instance_core.specs.declared.font.BaseFont.{BaseFont}
use Rattle.instance_core.specs.declared.cell.Cell.{Cell}
use Rattle.instance_core.specs.Cells.{number_of, in_cell_order}
use Rattle.instance_core.specs.Instances.{instance_width}
use Rattle.instance_table.specs.declared.view.Drawn.{Drawn}
use Rattle.instance_table.specs.declared.view.LastStep.{LastStep}
use Rattle.instance_table.specs.declared.view.LastStep.TheVariants.{NoStep, Looked, Tried, Read}
use Rattle.instance_table.specs.declared.view.View.{View}
use Rattle.instance_table.specs.Places.{cell_count, cell_of_number}
use Rattle.instance_table.specs.Seats.{Standing, Sitting, IsSeatOf}
use Rattle.table_widths.specs.declared.numbered.Numbered.{Numbered}

-- the cells that a seat found not empty, or claimed, in cell order and without repeats
abbrev pub touched_of : List BaseFont → List ℕ → List Cell
touched_of bases seen = in_cell_order bases (map (cell_of_number bases) seen)

pub record Lasting : Type 0 where
  pub table : Standing
  pub number : ℕ
  pub draws : ℕ
  pub drawn : List Drawn
  pub ended : Bool

abbrev pub lasting_of : Standing → View → Lasting
lasting_of table v = record { table = table; number = v.number; draws = v.draws; drawn = v.drawn; ended = v.ended }

-- a seat of the table that builds nothing
abbrev pub IsIdle : Standing → Sitting → Type 0
IsIdle table s = IsSeatOf table s × (s.view.building ≡ None)

pub record IsNumbered (bases : List BaseFont) (cell : Cell) (n : ℕ) : Type 0 where
  pub within : n < cell_count bases
  pub cell_is : cell_of_number bases n ≡ cell
  pub number_is : number_of bases cell ≡ Some n

abbrev pub HasNumber : List BaseFont → Numbered → Type 0
HasNumber bases it = IsNumbered bases it.cell it.number

-- by its last step, which found the cell empty, and none of its widths is stored
pub record HasClaimed (v : View) (n : ℕ) : Type 0 where
  pub building : v.building ≡ Some (record { cell = n; stored = 0 })
  pub last : v.last ≡ Tried n 0

-- the cell is ready, and no step that answers was made since it was claimed
pub record HasPublished (v : View) (n : ℕ) : Type 0 where
  pub building : v.building ≡ None
  pub ready : Contains v.ready n
  pub last : v.last ≡ Tried n 0

pub record Keeps (v w : View) : Type 0 where
  pub number : w.number ≡ v.number
  pub draws : w.draws ≡ v.draws
  pub drawn : w.drawn ≡ v.drawn
  pub ended : w.ended ≡ v.ended
  pub seen : w.seen ≡ v.seen
  pub last : w.last ≡ v.last
  pub taken : w.taken ≡ v.taken

-- the word of a state is a claim, 2 more than the number of the seat that claimed, and not that of this number
abbrev pub IsAnothers : ℕ → ℕ → Type 0
IsAnothers number word = (2 ≤ word) × (word ≢ number + 2)

abbrev pub IsAnswered : ℕ → ℕ → ℕ → LastStep → Type 0
IsAnswered number cell code NoStep = ⊥
IsAnswered number cell code (Looked at word) = (at ≡ cell) × IsAnothers number word
IsAnswered number cell code (Tried at word) = (at ≡ cell) × IsAnothers number word
IsAnswered number cell code (Read at k word) = (at ≡ cell) × (k ≡ code)

-- the seat has seen this cell besides those before, and made at least one step that answers
pub record Answers (bases : List BaseFont) (v : View) (n code : ℕ) (answer : ℤ) (w : View) : Type 0 where
  pub width : answer ≡ instance_width bases (cell_of_number bases n) code
  pub seen : w.seen ≡ v.seen ++ n ∷ []
  pub taken : v.taken < w.taken
  pub last : IsAnswered v.number n code w.last
  pub number : w.number ≡ v.number
  pub draws : w.draws ≡ v.draws
  pub drawn : w.drawn ≡ v.drawn
  pub ended : w.ended ≡ v.ended
