-- What a worker does with the paragraphs that it draws, one after another.
--     IsReady                        a job, its patterns, its fonts and a table that go together
--     wants_memory page              memory ran out
--     IsSetAt job stock place page   the answer is that of the paragraph at a place
--     IsDone job stock one           an entry has the page of the paragraph at its place, or its
--                                    fault
--     drawn_by number done           the draws of a seat that entries came of
--     lines_at job stock place       the lines of the paragraph at a place
--     AsksForAll                     which cells were asked for to set the paragraphs of entries
--     HasWorked job stock v w done   what a worker whose seat knew v has done, and what its seat
--                                    knows
use Rattle.std.specs.Prelude.{◌≡◌, ℕ, ◌≤◌, Bool, true, false, List, [], ◌∷◌, ◌++◌, length, map, All}
use Rattle.std.specs.Prelude.{Option, Some, None, slice_get, Result, Err, IfOk}
use Rattle.font_stock.specs.declared.font.Font.{Font}
use Rattle.micro_num.specs.declared.paragraph.Par.{Par}
use Rattle.hlist_build.specs.declared.fault.ParFault.{ParFault}
use Rattle.hlist_build.specs.declared.fault.ParFault.TheVariants.{NoMemory}
use Rattle.instance_core.specs.declared.cell.Cell.{Cell}
use Rattle.instance_core.specs.declared.font.BaseFont.{BaseFont}
use Rattle.instance_core.specs.declared.page.Packed.{Packed}
use Rattle.instance_core.specs.declared.page.Page.{Page}
use Rattle.instance_table.specs.declared.view.Drawn.{Drawn}
use Rattle.instance_table.specs.declared.view.View.{View}
use Rattle.instance_table.specs.Seats.{Standing}
use Rattle.job_text.specs.declared.job.Job.{Job}
use Rattle.hpack_two.specs.Over.{base_of}
use Rattle.liang_hyph.specs.Table.{IsMadeOf, PatternTable}
use Rattle.table_widths.specs.Widths.{touched_of}
use Rattle.para_threads.specs.declared.done.DoneAt.{DoneAt}
use Rattle.para_workers.specs.Fitting.{IsPageOver}
use Rattle.para_workers.specs.Pages.{IsSettable, places_for, page_of_one}
use Rattle.para_workers.specs.SetPar.{lines_of_par}
use Rattle.para_workers.specs.Touched.{TouchedByPage}

-- the paragraphs can be set, the patterns are the job's, and the table has the instances of the
-- fonts and a draw for each paragraph
pub record IsReady (job : Job) (patterns : PatternTable) (stock : List Font)
    (table : Standing) : Type 0 where
  pub settable : All (IsSettable (length stock)) job.pars
  pub patterns_made : IsMadeOf patterns job.patterns job.exceptions
  pub table_over : table.bases ≡ map base_of stock
  pub a_draw_each : table.draws ≡ length job.pars
  pub few : length job.pars ≤ 65535

abbrev pub wants_memory : {T : Type 0} → Result T ParFault → Bool
wants_memory (Err NoMemory) = true
wants_memory answer = false

-- the answer is that of the paragraph at the place, and a page fits the stock
pub record IsSetAt (job : Job) (stock : List Font) (place : ℕ)
    (page : Result Page ParFault) : Type 0 where
  pub par : Par
  pub here : slice_get job.pars place ≡ Some par
  pub is : page ≡ page_of_one job.tables (places_for job) stock par
  pub over : IfOk page (IsPageOver stock)

abbrev pub IsDone : Job → List Font → DoneAt → Type 0
IsDone job stock one = IsSetAt job stock one.place one.page

abbrev pub drawn_one : ℕ → DoneAt → Drawn
drawn_one number one = record { draw = one.place; number = number }

abbrev pub drawn_by : ℕ → List DoneAt → List Drawn
drawn_by number done = map (drawn_one number) done

abbrev pub lines_of_some : Job → List Font → Option Par → List Packed
lines_of_some job stock None = []
lines_of_some job stock (Some par) =
    lines_of_par par job.tables (places_for job par.params) stock

abbrev pub lines_at : Job → List Font → ℕ → List Packed
lines_at job stock place = lines_of_some job stock (slice_get job.pars place)

-- those of each page, and at a fault some of those of the paragraph's lines
unfoldable pub AsksForAll : Job → List Font → List BaseFont → List DoneAt
    → List Cell → List Cell → Type 0
AsksForAll job stock bases [] before after = after ≡ before
AsksForAll job stock bases (one ∷ done) before after =
    (between : List Cell)
    × TouchedByPage (lines_at job stock one.place) bases before between one.page
    × AsksForAll job stock bases done between after

-- its seat is ended, and drew one number past the last besides those of the entries
pub record HasWorked (job : Job) (stock : List Font) (v w : View)
    (done : List DoneAt) : Type 0 where
  pub ended : w.ended ≡ true
  pub late : ℕ
  pub past : length job.pars ≤ late
  pub drawn : w.drawn ≡ v.drawn
      ++ (drawn_by v.number done ++ (record { draw = late; number = v.number }) ∷ [])
  pub each : All (IsDone job stock) done
  pub asked : AsksForAll job stock v.bases done
      (touched_of v.bases v.seen) (touched_of v.bases w.seen)
