-- The pages of a job's paragraphs, set one after another.
--     places_for job             where its patterns and exceptions let words be hyphenated
--     page_of_one                the page of one paragraph, or its fault
--     pages_from                 those of paragraphs of which the first has a number
--     pages_of job stock         those of all, or the first paragraph that has none
--     SetsPages                  an answer is this, but for want of memory
--     IsSettable count par       a paragraph of so many fonts, whose lengths are in range
use Rattle.std.specs.Prelude.{◌≡◌, ⊤, ℕ, ◌+◌, ◌<◌, ◌^◌, List, [], ◌∷◌, length, All, Result, Ok, Err}
use Rattle.font_stock.specs.declared.font.Font.{Font}
use Rattle.micro_num.specs.declared.paragraph.Par.{Par}
use Rattle.micro_num.specs.declared.params.Params.{Params}
use Rattle.micro_num.specs.declared.tables.Tables.{Tables}
use Rattle.hlist_build.specs.Parts.{NamesFont}
use Rattle.hlist_build.specs.declared.fault.ParFault.{ParFault}
use Rattle.hlist_hyph.specs.Hyphenated.{Places, places_by}
use Rattle.instance_core.specs.declared.page.Page.{Page}
use Rattle.job_text.specs.declared.job.Job.{Job}
use Rattle.para_workers.specs.Lengths.{HasLengths}
use Rattle.para_workers.specs.SetPar.{set_par}
use Rattle.para_workers.specs.declared.fault.ParAt.{ParAt}
use Rattle.para_workers.specs.declared.fault.SetFault.{SetFault}
use Rattle.para_workers.specs.declared.fault.SetFault.TheVariants.{Par as par_fault, NoMemory}

-- a paragraph's parameters say how near to its ends a word may be hyphenated
abbrev pub places_for : Job → Params → Places
places_for job params = places_by job.patterns job.exceptions params

unfoldable pub page_of_one : Tables → (Params → Places) → List Font → Par → Result Page ParFault
page_of_one tables places stock par = set_par par tables (places par.params) stock

-- a paragraph, and those behind it
abbrev pub pages_with : ℕ → Result Page ParFault → Result (List Page) ParAt
    → Result (List Page) ParAt
pages_with number (Err fault) rest = Err (record { paragraph = number; fault = fault })
pages_with number (Ok page) (Err at) = Err at
pages_with number (Ok page) (Ok pages) = Ok (page ∷ pages)

unfoldable pub pages_from : Tables → (Params → Places) → List Font → ℕ → List Par
    → Result (List Page) ParAt
pages_from tables places stock number [] = Ok []
pages_from tables places stock number (par ∷ pars) =
    pages_with number (page_of_one tables places stock par)
    (pages_from tables places stock (number + 1) pars)

-- paragraphs are numbered from 1
abbrev pub pages_of : Job → List Font → Result (List Page) ParAt
pages_of job stock = pages_from job.tables (places_for job) stock 1 job.pars

abbrev pub SetsPages : Result (List Page) ParAt → Result (List Page) SetFault → Type 0
SetsPages wanted (Ok pages) = wanted ≡ Ok pages
SetsPages wanted (Err (par_fault at)) = wanted ≡ Err at
SetsPages wanted (Err NoMemory) = ⊤

pub record IsSettable (count : ℕ) (par : Par) : Type 0 where
  pub names : All (λ one. NamesFont count one.part) par.parts
  pub lengths : HasLengths par.params par.shape
  pub shape : length par.shape < 2 ^ 32
