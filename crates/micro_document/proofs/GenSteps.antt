-- What a generated document comes to, step by step.
--     gen_refused, gen_fontless, gen_unset, gen_set    where a step ends it
--     gen_found, gen_stopped                           as what a run finds of the command
use Rattle.std.proofs.Common.{◌≡◌, ℕ, ◌^◌, ◌<◌, List, [], length, replicate, true, refl, sym, ap, subst, Result, Ok, Err, ◌⊎◌, inl, inr}
use Rattle.outside_io.specs.States.{ShelfState}
use Rattle.font_stock.specs.declared.font.Font.{Font}
use Rattle.job_text.specs.Answers.{said_of, IsJobOf}
use Rattle.job_text.specs.declared.job.Job.{Job}
use Rattle.micro_words.specs.Documents.{job as gen_job}
use Rattle.micro_words.specs.Fonts.{tiny10}
use Rattle.micro_words.specs.declared.command.Cmd.{Cmd}
use Rattle.micro_words.specs.declared.command.CommandKind.TheVariants.{Gen}
use Rattle.micro_texts.specs.declared.answer.Answer.{Answer}
use Rattle.micro_texts.specs.declared.answer.Answer.TheVariants.{NoMemory}
use Rattle.micro_document.specs.declared.made.Made.{Made}
use Rattle.micro_document.specs.Stopping.{stop_of}
use Rattle.micro_document.specs.Making.{Settles, SettlesSome}
use Rattle.micro_document.specs.Outcome.{Outcome}
use Rattle.micro_document.specs.Outcome.Outcome.{Refuses}
use Rattle.micro_document.specs.Document.{IsJobRefusal, FontsFrom, GenFrom, KindFrom}
use Rattle.micro_document.specs.Finding.{Finds}
use Rattle.micro_document.specs.Setting.{set_outcome, gen_outcome}
use Rattle.micro_document.specs.Steps.{GivesFonts, RefusesFonts}
use Rattle.micro_document.proofs.Findings.{finds_no_memory, finds_concluded}
use Rattle.micro_document.proofs.Settings.{report_alone, report_refused}
use Rattle.micro_document.proofs.Steps.{made_found, fault_found, kind_found, error_of}

pub gen_refused : (number : ℕ) (bytes : List ℕ) (answer : Answer) → bytes ≡ gen_job number → IsJobRefusal bytes (Refuses answer) ⊎ (answer ≡ NoMemory) → SettlesSome (GenFrom number) (Err answer)
gen_refused number bytes answer e (inl refusal) =
    let P : List ℕ → Type 0 = λ b. IsJobRefusal b (Refuses answer) in
    inl (Refuses answer, inl (subst P e refusal), refl)
gen_refused number bytes answer e (inr none) = inr (ap Err none)

-- the job of a generated document, whose fonts come to an outcome
behind_job : (number : ℕ) (bytes font : List ℕ) (job : Job) (outcome : Outcome) → bytes ≡ gen_job number → font ≡ tiny10 → IsJobOf bytes (said_of job)
    → FontsFrom gen_outcome job [] job.fonts (replicate (length job.fonts) font) outcome → GenFrom number outcome
behind_job number bytes font job outcome e f is from =
    let P : List ℕ → Type 0 = λ b. IsJobOf b (said_of job) in
    let Q : List ℕ → Type 0 = λ b. FontsFrom gen_outcome job [] job.fonts (replicate (length job.fonts) b) outcome in
    inr (job, subst P e is, subst Q f from)

pub gen_fontless : (number : ℕ) (bytes font : List ℕ) (job : Job) (answer : Answer) → bytes ≡ gen_job number → font ≡ tiny10 → IsJobOf bytes (said_of job) → RefusesFonts job font answer → SettlesSome (GenFrom number) (Err answer)
gen_fontless number bytes font job answer e f is (inl refuses) = inl (Refuses answer, behind_job number bytes font job (Refuses answer) e f is (refuses gen_outcome), refl)
gen_fontless number bytes font job answer e f is (inr none) = inr (ap Err none)

settles_some : (number : ℕ) (outcome : Outcome) (result : Result Made Answer) → GenFrom number outcome → Settles outcome result → SettlesSome (GenFrom number) result
settles_some number outcome result d (inl makes) = inl (outcome, d, makes)
settles_some number outcome result d (inr none) = inr none

pub gen_unset : (number : ℕ) (bytes font : List ℕ) (job : Job) (stock : List Font) (answer : Answer) → bytes ≡ gen_job number → font ≡ tiny10 → IsJobOf bytes (said_of job) → GivesFonts job font stock
    → Settles (set_outcome true job stock) (Err answer) → SettlesSome (GenFrom number) (Err answer)
gen_unset number bytes font job stock answer e f is gives settles =
    settles_some number (gen_outcome job stock) (Err answer) (behind_job number bytes font job (gen_outcome job stock) e f is (gives gen_outcome)) (report_refused job stock answer settles)

pub gen_set : (number : ℕ) (bytes font : List ℕ) (job : Job) (stock : List Font) (made alone : Made) → bytes ≡ gen_job number → font ≡ tiny10 → IsJobOf bytes (said_of job) → GivesFonts job font stock
    → Settles (set_outcome true job stock) (Ok made) → alone.out ≡ [] → alone.talk ≡ made.talk → alone.closed ≡ made.closed → SettlesSome (GenFrom number) (Ok alone)
gen_set number bytes font job stock made alone e f is gives settles out talk closed =
    inl (gen_outcome job stock, behind_job number bytes font job (gen_outcome job stock) e f is (gives gen_outcome), report_alone job stock made alone out talk closed settles)

-- ---- as what is found of the command

pub gen_found : (cmd : Cmd) (shelf : ShelfState) (made : Made) → shelf.calls < 2 ^ 64 → cmd.command ≡ Gen → SettlesSome (GenFrom cmd.number) (Ok made) → Finds 0 (KindFrom cmd.command cmd) shelf shelf (Ok made)
gen_found cmd shelf made fits is (inl (outcome, d, makes)) =
    kind_found Gen cmd shelf shelf (Ok made) is (finds_concluded 0 (KindFrom Gen cmd) outcome shelf (Ok made) fits d (made_found outcome made makes))
gen_found cmd shelf made fits is (inr e) = absurd cc

pub gen_stopped : (cmd : Cmd) (shelf : ShelfState) (answer : Answer) → shelf.calls < 2 ^ 64 → cmd.command ≡ Gen → SettlesSome (GenFrom cmd.number) (Err answer) → Finds 0 (KindFrom cmd.command cmd) shelf shelf (Err (stop_of answer))
gen_stopped cmd shelf answer fits is (inl (outcome, d, makes)) =
    kind_found Gen cmd shelf shelf (Err (stop_of answer)) is (finds_concluded 0 (KindFrom Gen cmd) outcome shelf (Err (stop_of answer)) fits d (fault_found outcome answer makes))
gen_stopped cmd shelf answer fits is (inr e) =
    let P : Answer → Type 0 = λ a. Finds 0 (KindFrom cmd.command cmd) shelf shelf (Err (stop_of a)) in
    subst P (sym (ap error_of e)) (finds_no_memory 0 (KindFrom cmd.command cmd) shelf fits)
