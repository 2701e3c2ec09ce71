-- What a job comes to with its fonts: its pages as a DVI file, and the report of them.
--     reports_of report pages out   the report of pages and of their file, where it is wanted
--     output_of                     the file of pages, the report, and the instances that they use
--     file_outcome output           the output, unless its file has 2^31 bytes or more
--     set_outcome report job stock  the file of a job, or its first paragraph that can't be set
--     gen_outcome job stock         the report alone, with the same faults
--     RefusesLength                 how the writing of a file answers its fault, unless memory runs
--                                   out
use Rattle.std.specs.Prelude.{◌≡◌, ◌<◌, ◌⊎◌, ℕ, Bool, true, false, List, [], ◌∷◌, length, map}
use Rattle.std.specs.Prelude.{nat_lt, if◌then◌else◌}
use Rattle.std.specs.Prelude.{Some, Result, Ok, Err}
use Rattle.font_stock.specs.declared.font.Font.{Font}
use Rattle.hpack_two.specs.Over.{base_of}
use Rattle.instance_core.specs.declared.page.Page.{Page}
use Rattle.job_text.specs.declared.job.Job.{Job}
use Rattle.para_workers.specs.declared.fault.ParAt.{ParAt}
use Rattle.para_workers.specs.Pages.{pages_of}
use Rattle.renumber.specs.Uses.{used, cells_of_pages, first_uses}
use Rattle.dvi_write.specs.Document.{dvi}
use Rattle.job_dvi.specs.Rows.{rows_of}
use Rattle.micro_texts.specs.Reports.{report_of, report_text}
use Rattle.micro_texts.specs.declared.answer.Answer.{Answer}
use Rattle.micro_texts.specs.declared.answer.Answer.TheVariants.{Par, DviTooLong, NoMemory}
use Rattle.micro_document.specs.Outcome.{Instances, Output, Outcome}
use Rattle.micro_document.specs.Outcome.Outcome.{Wants, Refuses, Gives}

-- a report counts the fonts by the numbering of the file
abbrev pub reports_of : Bool → List Page → List ℕ → List (List ℕ)
reports_of false pages out = []
reports_of true pages out =
    report_text (report_of pages (first_uses (cells_of_pages pages)) (length out)) ∷ []

abbrev pub instances_of : List Font → List Page → Instances
instances_of stock pages = record {
  fonts = map base_of stock;
  used = used (map base_of stock) pages;
}

abbrev pub output_of : Bool → Job → List Font → List Page → Output
output_of report job stock pages = record {
  out = dvi (rows_of job.fonts stock) pages;
  talk = reports_of report pages (dvi (rows_of job.fonts stock) pages);
  instances = Some (instances_of stock pages);
}

abbrev pub file_outcome : Output → Outcome
file_outcome output =
    if nat_lt (length output.out) 2147483648 then Gives output
    else Refuses (DviTooLong (length output.out))

abbrev pub pages_outcome : Bool → Job → List Font → Result (List Page) ParAt → Outcome
pages_outcome report job stock (Err at) = Refuses (Par at)
pages_outcome report job stock (Ok pages) = file_outcome (output_of report job stock pages)

unfoldable pub set_outcome : Bool → Job → List Font → Outcome
set_outcome report job stock = pages_outcome report job stock (pages_of job stock)

-- an outcome whose output has nothing but talk
abbrev pub talk_alone : Outcome → Outcome
talk_alone (Wants name) = Wants name
talk_alone (Refuses fault) = Refuses fault
talk_alone (Gives output) = Gives (record output { out = [] })

abbrev pub gen_outcome : Job → List Font → Outcome
gen_outcome job stock = talk_alone (set_outcome true job stock)

abbrev pub RefusesLength : ℕ → Answer → Type 0
RefusesLength bytes answer =
    (2147483647 < bytes) × (answer ≡ DviTooLong bytes) ⊎ (answer ≡ NoMemory)
