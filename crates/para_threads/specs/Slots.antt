-- What became of paragraphs, each in the slot of its place.
--     Slot                       a place for what became of a paragraph
--     slot_at slots place        the slot of a place
--     filled slots done          slots with what became of some paragraphs at their places
--     IsFull slot                something became of its paragraph
--     pages_in number slots      the pages in slots of which the first has a number, or the first
--                                paragraph that has none
--     slot_of job stock par      the slot of a paragraph that was set
--     IsSlotOver stock slot      a page in it fits the stock
use Rattle.std.specs.Prelude.{ℕ, ◌+◌, List, [], ◌∷◌, Option, Some, None, Result, Ok}
use Rattle.std.specs.Prelude.{⊤, IfOk, IfSome, slice_set, slice_index_or}
use Rattle.font_stock.specs.declared.font.Font.{Font}
use Rattle.micro_num.specs.declared.paragraph.Par.{Par}
use Rattle.hlist_build.specs.declared.fault.ParFault.{ParFault}
use Rattle.instance_core.specs.declared.page.Page.{Page}
use Rattle.job_text.specs.declared.job.Job.{Job}
use Rattle.para_workers.specs.declared.fault.ParAt.{ParAt}
use Rattle.para_workers.specs.Fitting.{IsPageOver}
use Rattle.para_workers.specs.Pages.{page_of_one, pages_with, places_for}
use Rattle.para_threads.specs.declared.done.DoneAt.{DoneAt}

abbrev pub Slot : Type 0
Slot = Option (Result Page ParFault)

abbrev pub slot_at : List Slot → ℕ → Slot
slot_at slots place = slice_index_or slots place None

unfoldable pub filled : List Slot → List DoneAt → List Slot
filled slots [] = slots
filled slots (one ∷ done) = filled (slice_set slots one.place (Some one.page)) done

abbrev pub IsFull : Slot → Type 0
IsFull None = ⊥
IsFull (Some page) = ⊤

-- a slot that isn't full has no page
unfoldable pub pages_in : ℕ → List Slot → Result (List Page) ParAt
pages_in number [] = Ok []
pages_in number (None ∷ slots) = pages_in (number + 1) slots
pages_in number (Some page ∷ slots) = pages_with number page (pages_in (number + 1) slots)

abbrev pub slot_of : Job → List Font → Par → Slot
slot_of job stock par = Some (page_of_one job.tables (places_for job) stock par)

abbrev pub IsSlotOver : List Font → Slot → Type 0
IsSlotOver stock slot = IfSome slot (λ page. IfOk page (IsPageOver stock))
