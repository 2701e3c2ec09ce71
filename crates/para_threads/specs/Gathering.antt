-- What is known of workers that were joined.
--     cells_if page, cells_done done   the cells of a page, where it is one, and of those of entries
--     IsGood page, AreGood done        it is a page, and each entry has one
--     HasEntry done place              an entry is of the paragraph at a place
--     Gathered                         what is known of seat 0 and the slots
--     HasPast count view               a draw past the last is known
use Rattle.std.specs.Prelude.{◌≡◌, ◌≢◌, ℕ, ◌<◌, ◌≤◌, List, [], length, flat_map, All, Contains}
use Rattle.std.specs.Prelude.{Some, Result, Ok, Err}
use Rattle.std.specs.Prelude.{⊤}
use Rattle.font_stock.specs.declared.font.Font.{Font}
use Rattle.hlist_build.specs.declared.fault.ParFault.{ParFault}
use Rattle.hpack_two.specs.Answers.{touched_with}
use Rattle.instance_core.specs.declared.cell.Cell.{Cell}
use Rattle.instance_core.specs.declared.page.Page.{Page}
use Rattle.instance_table.specs.declared.view.Drawn.{Drawn}
use Rattle.instance_table.specs.declared.view.View.{View}
use Rattle.job_text.specs.declared.job.Job.{Job}
use Rattle.table_widths.specs.Widths.{touched_of}
use Rattle.para_workers.specs.Touched.{cells_of_page}
use Rattle.para_threads.specs.declared.done.DoneAt.{DoneAt}
use Rattle.para_threads.specs.Slots.{Slot, slot_at}
use Rattle.para_threads.specs.Working.{IsDone}

abbrev pub cells_if : Result Page ParFault → List Cell
cells_if (Ok page) = cells_of_page page
cells_if (Err fault) = []

unfoldable pub cells_done : List DoneAt → List Cell
cells_done done = flat_map (λ (one : DoneAt). cells_if one.page) done

abbrev pub IsGood : Result Page ParFault → Type 0
IsGood (Ok page) = ⊤
IsGood (Err fault) = ⊥

abbrev pub AreGood : List DoneAt → Type 0
AreGood done = All (λ (one : DoneAt). IsGood one.page) done

pub record HasEntry (done : List DoneAt) (place : ℕ) : Type 0 where
  pub one : DoneAt
  pub among : Contains done one
  pub there : one.place ≡ place

-- all entries stand in the slots; each draw of the seat below the count has its entry; where each
-- entry has a page, the seat has seen the cells of these pages alone; and it claimed none itself
pub record Gathered (job : Job) (stock : List Font) (view : View)
    (slots : List Slot) : Type 0 where
  pub all : List DoneAt
  pub each : All (IsDone job stock) all
  pub stand : All (λ (one : DoneAt). slot_at slots one.place ≡ Some one.page) all
  pub drawn : All (λ (d : Drawn). d.draw < length job.pars → HasEntry all d.draw) view.drawn
  pub asked : AreGood all
      → touched_of view.bases view.seen ≡ touched_with view.bases (cells_done all) []
  pub claims : All (λ e. e.number ≢ 0) view.claims

pub record HasPast (count : ℕ) (view : View) : Type 0 where
  pub draw : Drawn
  pub among : Contains view.drawn draw
  pub past : count ≤ draw.draw
