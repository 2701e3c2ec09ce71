-- The seats that workers take, and what they come back with.
--     IsNew table seat           a seat of the table that has made no step
--     IsWork                     what a worker that had such a seat comes back with
--     seats_of works             the seats of workers that came back
--     numbers seats              the numbers of seats
--     numbers_upto count         those from 1 to a count
use Rattle.std.specs.Prelude.{◌≡◌, ℕ, ◌+◌, List, map, IfOk}
use Rattle.std.specs.List.{range_with_len}
use Rattle.font_stock.specs.declared.font.Font.{Font}
use Rattle.instance_table.specs.Seats.{Standing, Sitting, IsSeatOf}
use Rattle.instance_table.specs.Steps.{new_view}
use Rattle.job_text.specs.declared.job.Job.{Job}
use Rattle.table_widths.specs.Widths.{IsIdle}
use Rattle.para_threads.specs.declared.done.Work.{Work}
use Rattle.para_threads.specs.Working.{HasWorked}

abbrev pub IsNew : Standing → Sitting → Type 0
IsNew table seat =
    IsSeatOf table seat × (seat.view ≡ new_view table.bases table.draws seat.view.number)

-- its seat was new when it began
pub record IsWork (table : Standing) (job : Job) (stock : List Font) (work : Work) : Type 0 where
  pub idle : IsIdle table work.seat
  pub done : IfOk work.done (λ done. HasWorked job stock
      (new_view table.bases table.draws work.seat.view.number) work.seat.view done.items)

abbrev pub seats_of : List Work → List Sitting
seats_of works = map (λ (work : Work). work.seat) works

abbrev pub numbers : List Sitting → List ℕ
numbers seats = map (λ (seat : Sitting). seat.view.number) seats

abbrev pub numbers_upto : ℕ → List ℕ
numbers_upto count = map (λ k. k + 1) (range_with_len 0 count)
