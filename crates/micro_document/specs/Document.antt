-- The document of a command's words: what its job and its fonts come to, in the order of reading.
--     FontsFrom finish job stock decls    the fonts that are yet to be read, behind those in the stock
--     JobFrom finish bytes                a job and then its fonts
--     FilesFrom finish name               all files of a job
--     GivenFrom finish bytes font         a job that is given, with the one file of its fonts
--     CommandFrom cmd                     the document of a command
--     Doc words                           the whole document
-- Everything else is said of any document.
use Rattle.std.specs.Prelude.{◌≡◌, ℕ, List, [], ◌∷◌, ◌++◌, length, replicate, get_or, ◌⊎◌}
use Rattle.std.specs.Prelude.{Option, Some, None}
use Rattle.font_stock.specs.declared.font.Font.{Font}
use Rattle.job_reading.specs.declared.fault.JobFaultKind.{JobFaultKind}
use Rattle.job_text.specs.Answers.{said_of, IsJobOf, IsFaultAt}
use Rattle.job_text.specs.declared.font_decl.FontDecl.{FontDecl}
use Rattle.job_text.specs.declared.job.Job.{Job}
use Rattle.job_fonts.specs.Reads.{file_of, IsFontRead, IsFontFault}
use Rattle.job_fonts.specs.declared.fault.FontFault.{FontFault}
use Rattle.job_fonts.specs.declared.fault.FontFault.TheVariants.{At, NoMemory as no_memory}
use Rattle.job_fonts.specs.declared.fault.FontFaultKind.{FontFaultKind}
use Rattle.micro_words.specs.Commands.{cmd_of}
use Rattle.micro_words.specs.Documents.{job as gen_job}
use Rattle.micro_words.specs.Fonts.{tiny10}
use Rattle.micro_words.specs.declared.command.Cmd.{Cmd}
use Rattle.micro_words.specs.declared.command.CommandKind.{CommandKind}
use Rattle.micro_words.specs.declared.command.CommandKind.TheVariants.{Set, Breaks, Gen}
use Rattle.micro_texts.specs.declared.answer.Answer.{Answer}
use Rattle.micro_texts.specs.declared.answer.Answer.TheVariants.{BadWords, NoMemory, Job as job_fault}
use Rattle.micro_texts.specs.declared.answer.Answer.TheVariants.{Font as font_fault}
use Rattle.micro_document.specs.Outcome.{Outcome, Document}
use Rattle.micro_document.specs.Outcome.Outcome.{Wants, Refuses}
use Rattle.micro_document.specs.Breaking.{breaks_outcome}
use Rattle.micro_document.specs.Setting.{set_outcome, gen_outcome}
use Rattle.micro_document.specs.declared.task.Task.{Task}
use Rattle.micro_document.specs.declared.task.Task.TheVariants.{Set as set_task, Breaks as breaks_task}

-- what a job with its fonts comes to
abbrev pub Finish : Type 0
Finish = Job → List Font → Outcome

-- a fault of the font of a number
abbrev pub font_answer : ℕ → FontFault → Answer
font_answer number (At kind word) = font_fault number kind word
font_answer number no_memory = NoMemory

-- a font's file has a fault, or it and its declaration have one
pub record IsFontRefusal (number : ℕ) (decl : FontDecl) (bytes : List ℕ)
    (outcome : Outcome) : Type 0 where
  pub kind : FontFaultKind
  pub word : ℕ
  pub fault : IsFontFault decl bytes kind word
  pub is : outcome ≡ Refuses (font_fault number kind word)

abbrev pub FontsFrom : Finish → Job → List Font → List FontDecl → Document
FontsFrom finish job stock [] reads outcome = outcome ≡ finish job stock
FontsFrom finish job stock (decl ∷ decls) [] outcome = outcome ≡ Wants (file_of decl)
FontsFrom finish job stock (decl ∷ decls) (bytes ∷ reads) outcome =
    IsFontRefusal (length stock) decl bytes outcome
    ⊎ ((font : Font) × IsFontRead decl bytes font
    × FontsFrom finish job (stock ++ font ∷ []) decls reads outcome)

-- a job's file has a fault
pub record IsJobRefusal (bytes : List ℕ) (outcome : Outcome) : Type 0 where
  pub place : ℕ
  pub kind : JobFaultKind
  pub fault : IsFaultAt bytes place kind
  pub is : outcome ≡ Refuses (job_fault place kind)

abbrev pub JobFrom : Finish → List ℕ → Document
JobFrom finish bytes reads outcome =
    IsJobRefusal bytes outcome
    ⊎ ((job : Job) × IsJobOf bytes (said_of job)
    × FontsFrom finish job [] job.fonts reads outcome)

abbrev pub FilesFrom : Finish → List ℕ → Document
FilesFrom finish name [] outcome = outcome ≡ Wants name
FilesFrom finish name (bytes ∷ reads) outcome = JobFrom finish bytes reads outcome

-- each of its fonts, one in a generated job, has the same file
abbrev pub GivenFrom : Finish → List ℕ → List ℕ → Outcome → Type 0
GivenFrom finish bytes font outcome =
    IsJobRefusal bytes outcome
    ⊎ ((job : Job) × IsJobOf bytes (said_of job)
    × FontsFrom finish job [] job.fonts (replicate (length job.fonts) font) outcome)

abbrev pub finish_of : Task → Finish
finish_of (set_task report) = set_outcome report
finish_of breaks_task = breaks_outcome

-- a generated document: no file is read
abbrev pub GenFrom : ℕ → Outcome → Type 0
GenFrom number outcome = GivenFrom gen_outcome (gen_job number) tiny10 outcome

-- the one file that a command names
abbrev pub file_named : Cmd → List ℕ
file_named cmd = get_or cmd.files 0 []

abbrev pub KindFrom : CommandKind → Cmd → Document
KindFrom Set cmd reads outcome =
    FilesFrom (finish_of (set_task cmd.report)) (file_named cmd) reads outcome
KindFrom Breaks cmd reads outcome =
    FilesFrom (finish_of breaks_task) (file_named cmd) reads outcome
KindFrom Gen cmd reads outcome = GenFrom cmd.number outcome

abbrev pub CommandFrom : Cmd → Document
CommandFrom cmd = KindFrom cmd.command cmd

abbrev pub DocOf : Option Cmd → Document
DocOf None reads outcome = outcome ≡ Refuses BadWords
DocOf (Some cmd) reads outcome = CommandFrom cmd reads outcome

-- the words of the command line, of which the first is the program's name
abbrev pub Doc : List (List ℕ) → Document
Doc words = DocOf (cmd_of words)
