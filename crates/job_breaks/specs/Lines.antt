-- The lines that tell how the paragraphs of a job are broken.
--     taken_of                    what the first pass gives by which a paragraph is broken
--     line_of_list                the line of a paragraph of a number, by its list
--     line_of_par                 the same, or its fault where it has no list
--     lines_from                  those of paragraphs of which the first has a number
--     broken_lines job stock      those of all, or the first paragraph that has none
--     set_fault                   the fault of a paragraph of a number
--     TellsLine, TellsLines       an answer is this, but for want of memory
use Rattle.std.specs.Prelude.{◌≡◌, ⊤, ℕ, ◌+◌, List, [], ◌∷◌, Option, Some, None, Result, Ok, Err}
use Rattle.font_stock.specs.declared.font.Font.{Font}
use Rattle.micro_num.specs.declared.paragraph.Par.{Par}
use Rattle.micro_num.specs.declared.params.Params.{Params}
use Rattle.micro_num.specs.declared.tables.Tables.{Tables}
use Rattle.hlist.specs.declared.item.HList.{HList}
use Rattle.hlist_build.specs.Paragraph.{list_of}
use Rattle.hlist_build.specs.declared.fault.ParFault.{ParFault}
use Rattle.hlist_build.specs.declared.fault.ParFault.TheVariants.{NoMemory as no_memory}
use Rattle.hlist_hyph.specs.Hyphenated.{Places}
use Rattle.job_text.specs.declared.job.Job.{Job}
use Rattle.line_break.specs.Taken.{Taken, first_taken}
use Rattle.micro_texts.specs.Breaks.{breaks_line}
use Rattle.para_workers.specs.Pages.{places_for}
use Rattle.para_workers.specs.SetPar.{paragraph_of}
use Rattle.para_workers.specs.declared.fault.ParAt.{ParAt}
use Rattle.para_workers.specs.declared.fault.SetFault.{SetFault}
use Rattle.para_workers.specs.declared.fault.SetFault.TheVariants.{Par as par_fault, NoMemory}
use Rattle.paragraph_breaks.specs.Passes.{Paragraph, passes_of}

-- want of memory is none of a paragraph's faults
abbrev pub set_fault : ℕ → ParFault → SetFault
set_fault number no_memory = NoMemory
set_fault number fault = par_fault (record { paragraph = number; fault = fault })

abbrev pub taken_of : Paragraph → Option Taken
taken_of p = first_taken p.params.looseness (passes_of p)

-- The last pass is always taken; a paragraph that none broke would have an empty line.
abbrev pub line_of_taken : ℕ → Option Taken → List ℕ
line_of_taken number None = []
line_of_taken number (Some taken) = breaks_line number taken

unfoldable pub line_of_list : ℕ → Paragraph → List ℕ
line_of_list number p = line_of_taken number (taken_of p)

abbrev pub line_of_built : ℕ → Par → Tables → Places → List Font
    → Result HList ParFault → Result (List ℕ) ParFault
line_of_built number par tables places stock (Err fault) = Err fault
line_of_built number par tables places stock (Ok list) =
    Ok (line_of_list number (paragraph_of par tables places stock list.items))

-- a paragraph's parameters say how near to its ends a word may be hyphenated
unfoldable pub line_of_par : Tables → (Params → Places) → List Font → ℕ → Par
    → Result (List ℕ) ParFault
line_of_par tables places stock number par =
    line_of_built number par tables (places par.params) stock (list_of par tables stock)

-- a paragraph, and those behind it
abbrev pub lines_with : ℕ → Result (List ℕ) ParFault → Result (List (List ℕ)) ParAt
    → Result (List (List ℕ)) ParAt
lines_with number (Err fault) rest = Err (record { paragraph = number; fault = fault })
lines_with number (Ok line) (Err at) = Err at
lines_with number (Ok line) (Ok lines) = Ok (line ∷ lines)

unfoldable pub lines_from : Tables → (Params → Places) → List Font → ℕ → List Par
    → Result (List (List ℕ)) ParAt
lines_from tables places stock number [] = Ok []
lines_from tables places stock number (par ∷ pars) =
    lines_with number (line_of_par tables places stock number par)
    (lines_from tables places stock (number + 1) pars)

-- paragraphs are numbered from 1
abbrev pub broken_lines : Job → List Font → Result (List (List ℕ)) ParAt
broken_lines job stock = lines_from job.tables (places_for job) stock 1 job.pars

-- the number of a fault is the paragraph's own
abbrev pub TellsLine : ℕ → Result (List ℕ) ParFault → Result (List ℕ) SetFault → Type 0
TellsLine number wanted (Ok line) = wanted ≡ Ok line
TellsLine number wanted (Err (par_fault at)) = (at.paragraph ≡ number) × (wanted ≡ Err at.fault)
TellsLine number wanted (Err NoMemory) = ⊤

abbrev pub TellsLines : Result (List (List ℕ)) ParAt → Result (List (List ℕ)) SetFault → Type 0
TellsLines wanted (Ok lines) = wanted ≡ Ok lines
TellsLines wanted (Err (par_fault at)) = wanted ≡ Err at
TellsLines wanted (Err NoMemory) = ⊤
