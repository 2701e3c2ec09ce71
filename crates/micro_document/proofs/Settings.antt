-- What is made of a job that was set, and what it is refused for.
use Rattle.std.proofs.Common.{◌≡◌, ℕ, ◌<◌, ◌^◌, List, [], length, map, Bool, true, false, cond, nat_lt, refl, sym, ◌∙◌, ap, subst, arith}
use Rattle.std.proofs.Common.{Option, Some, Result, Ok, Err, IfOk, inl, inr}
use Rattle.std.specs.Prelude.{All, IfErr, OnOk}
use Rattle.std.proofs.lemmas.Bool.Decides.{nat_tests}
use Rattle.font_stock.specs.declared.font.Font.{Font}
use Rattle.hpack_two.specs.Over.{base_of}
use Rattle.instance_core.specs.declared.page.Owner.{Owner}
use Rattle.instance_core.specs.declared.page.Page.{Page}
use Rattle.instance_table.specs.declared.closing.Closed.{Closed}
use Rattle.liang_hyph.specs.Table.{IsMadeOf, PatternTable}
use Rattle.job_text.specs.Fits.{JobFits}
use Rattle.job_text.specs.declared.font_decl.FontDecl.{FontDecl}
use Rattle.job_text.specs.declared.job.Job.{Job}
use Rattle.liang_hyph.specs.declared.source.Pattern.{Pattern}
use Rattle.liang_hyph.specs.declared.source.Exception.{Exception}
use Rattle.para_workers.specs.declared.fault.ParAt.{ParAt}
use Rattle.para_workers.specs.Pages.{IsSettable, pages_of}
use Rattle.para_workers.proofs.JobLaws.{job-settable}
use Rattle.renumber.specs.Uses.{used}
use Rattle.dvi_write.specs.Document.{dvi}
use Rattle.job_dvi.specs.Rows.{rows_of}
use Rattle.micro_texts.specs.declared.answer.Answer.{Answer}
use Rattle.micro_texts.specs.declared.answer.Answer.TheVariants.{Par, DviTooLong}
use Rattle.micro_document.specs.declared.made.Made.{Made}
use Rattle.micro_document.specs.Outcome.{Instances, Output, Outcome}
use Rattle.micro_document.specs.Outcome.Outcome.{Wants, Refuses, Gives}
use Rattle.micro_document.specs.Making.{AreBuilt, IsReceipt, IsMade, Makes, Settles}
use Rattle.micro_document.specs.Setting.{instances_of, output_of, pages_outcome, set_outcome, reports_of, talk_alone, gen_outcome, RefusesLength}

long_enough : (n : ℕ) → nat_lt n 2147483648 ≡ true → 2147483647 < n → ⊥
long_enough n test past = grind (arith, nat_tests)

short_enough : (n : ℕ) → nat_lt n 2147483648 ≡ false → n < 2 ^ 31 → ⊥
short_enough n test within = grind (arith, nat_tests)

gives : (output : Output) (made : Made) → length output.out < 2 ^ 31 → IsMade output made
    → (b : Bool) → nat_lt (length output.out) 2147483648 ≡ b → Makes (cond b (Gives output) (Refuses (DviTooLong (length output.out)))) (Ok made)
gives output made within is true test = is
gives output made within is false test = absurd (short_enough (length output.out) test within)

too_long : (output : Output) (bytes : ℕ) → 2147483647 < length output.out → bytes ≡ length output.out
    → (b : Bool) → nat_lt (length output.out) 2147483648 ≡ b → Makes (cond b (Gives output) (Refuses (DviTooLong (length output.out)))) (Err (DviTooLong bytes))
too_long output bytes past is true test = absurd (long_enough (length output.out) test past)
too_long output bytes past is false test = ap DviTooLong is

job_written : (report : Bool) (job : Job) (stock : List Font) (pages : List Page) (made : Made) → pages_of job stock ≡ Ok pages → length (dvi (rows_of job.fonts stock) pages) < 2 ^ 31
    → made.out ≡ dvi (rows_of job.fonts stock) pages → made.talk ≡ reports_of report pages (dvi (rows_of job.fonts stock) pages) → AreBuilt (Some (instances_of stock pages)) made.closed → Makes (set_outcome report job stock) (Ok made)
unfolding set_outcome
job_written report job stock pages made set within out talk built =
    let P : Result (List Page) ParAt → Type 0 = λ r. Makes (pages_outcome report job stock r) (Ok made) in
    subst P (sym set) (gives (output_of report job stock pages) made within (record { out = out; talk = talk; built = built }) (nat_lt (length (dvi (rows_of job.fonts stock) pages)) 2147483648) refl)

job_too_long : (report : Bool) (job : Job) (stock : List Font) (pages : List Page) → pages_of job stock ≡ Ok pages → 2147483647 < length (dvi (rows_of job.fonts stock) pages)
    → Makes (set_outcome report job stock) (Err (DviTooLong (length (dvi (rows_of job.fonts stock) pages))))
unfolding set_outcome
job_too_long report job stock pages set past =
    let bytes = length (dvi (rows_of job.fonts stock) pages) in
    let P : Result (List Page) ParAt → Type 0 = λ r. Makes (pages_outcome report job stock r) (Err (DviTooLong bytes)) in
    subst P (sym set) (too_long (output_of report job stock pages) bytes past refl (nat_lt bytes 2147483648) refl)

pub par_answered : (report : Bool) (job : Job) (stock : List Font) (at : ParAt) → pages_of job stock ≡ Err at → Settles (set_outcome report job stock) (Err (Par at))
unfolding set_outcome
par_answered report job stock at set =
    let P : Result (List Page) ParAt → Type 0 = λ r. Makes (pages_outcome report job stock r) (Err (Par at)) in
    inl (subst P (sym set) refl)

answered : (outcome : Outcome) (a b : Answer) → a ≡ b → Makes outcome (Err b) → Settles outcome (Err a)
answered outcome a b e makes =
    let P : Answer → Type 0 = λ x. Settles outcome (Err x) in
    subst P (sym e) (inl makes)

-- what is known of the file of pages
pub record IsFile (report : Bool) (fonts : List FontDecl) (stock : List Font) (pages : List Page) (receipt : Closed) (result : Result Made Answer) : Type 0 where
  pub out : IfOk result (λ made. made.out ≡ dvi (rows_of fonts stock) pages)
  pub talk : IfOk result (λ made. made.talk ≡ reports_of report pages (dvi (rows_of fonts stock) pages))
  pub closed : IfOk result (λ made. made.closed ≡ Some receipt)
  pub within : OnOk result (length (dvi (rows_of fonts stock) pages) < 2 ^ 31)
  pub fault : IfErr result (RefusesLength (length (dvi (rows_of fonts stock) pages)))

fault_known : (report : Bool) (job : Job) (stock : List Font) (pages : List Page) (answer : Answer) → pages_of job stock ≡ Ok pages → RefusesLength (length (dvi (rows_of job.fonts stock) pages)) answer → Settles (set_outcome report job stock) (Err answer)
fault_known report job stock pages answer set (inl (past, e)) =
    answered (set_outcome report job stock) answer (DviTooLong (length (dvi (rows_of job.fonts stock) pages))) e (job_too_long report job stock pages set past)
fault_known report job stock pages answer set (inr e) = inr (ap Err e)

file_known : (report : Bool) (job : Job) (stock : List Font) (pages : List Page) (receipt : Closed) (result : Result Made Answer) → pages_of job stock ≡ Ok pages → IsReceipt (instances_of stock pages) receipt
    → IsFile report job.fonts stock pages receipt result → Settles (set_outcome report job stock) result
file_known report job stock pages receipt (Ok made) set built file =
    let P : Option Closed → Type 0 = AreBuilt (Some (instances_of stock pages)) in
    inl (job_written report job stock pages made set file.within file.out file.talk (subst P (sym file.closed) built))
file_known report job stock pages receipt (Err answer) set built file = fault_known report job stock pages answer set file.fault

pub file_answered : (report : Bool) (job : Job) (fonts : List FontDecl) (stock : List Font) (pages : List Page) (receipt : Closed) (result : Result Made Answer) → fonts ≡ job.fonts → pages_of job stock ≡ Ok pages
    → receipt.bases ≡ map base_of stock → map (λ (owner : Owner). owner.cell) receipt.owners ≡ used (map base_of stock) pages → IsFile report fonts stock pages receipt result → Settles (set_outcome report job stock) result
file_answered report job fonts stock pages receipt result lent set bases cells file =
    let P : List FontDecl → Type 0 = λ f. IsFile report f stock pages receipt result in
    file_known report job stock pages receipt result set (record { bases = bases; cells = cells }) (subst P lent file)

-- ---- a generated document, of which the report alone is told

receipt_handed_on : (instances : Option Instances) (a b : Option Closed) → b ≡ a → AreBuilt instances a → AreBuilt instances b
receipt_handed_on instances a b e built =
    let P : Option Closed → Type 0 = AreBuilt instances in
    subst P (sym e) built

talk_made : (outcome : Outcome) (made alone : Made) → alone.out ≡ [] → alone.talk ≡ made.talk → alone.closed ≡ made.closed → Makes outcome (Ok made) → Makes (talk_alone outcome) (Ok alone)
talk_made (Wants name) made alone out talk closed m = m
talk_made (Refuses fault) made alone out talk closed m = m
talk_made (Gives output) made alone out talk closed m = record { out = out; talk = talk ∙ m.talk; built = receipt_handed_on output.instances made.closed alone.closed closed m.built }

talk_refused : (outcome : Outcome) (answer : Answer) → Makes outcome (Err answer) → Makes (talk_alone outcome) (Err answer)
talk_refused (Wants name) answer m = m
talk_refused (Refuses fault) answer m = m
talk_refused (Gives output) answer m = m

pub report_alone : (job : Job) (stock : List Font) (made alone : Made) → alone.out ≡ [] → alone.talk ≡ made.talk → alone.closed ≡ made.closed → Settles (set_outcome true job stock) (Ok made) → Makes (gen_outcome job stock) (Ok alone)
report_alone job stock made alone out talk closed (inl m) = talk_made (set_outcome true job stock) made alone out talk closed m
report_alone job stock made alone out talk closed (inr e) = absurd cc

pub report_refused : (job : Job) (stock : List Font) (answer : Answer) → Settles (set_outcome true job stock) (Err answer) → Settles (gen_outcome job stock) (Err answer)
report_refused job stock answer (inl m) = inl (talk_refused (set_outcome true job stock) answer m)
report_refused job stock answer (inr e) = inr e

-- ---- a job whose paragraphs are broken

-- a table that was made of lent lists
pub made_of : (table : PatternTable) (job : Job) (patterns : List Pattern) (exceptions : List Exception) → patterns ≡ job.patterns → exceptions ≡ job.exceptions → IsMadeOf table patterns exceptions → IsMadeOf table job.patterns job.exceptions
made_of table job patterns exceptions p e is =
    let P : List Pattern → Type 0 = λ x. IsMadeOf table x exceptions in
    let Q : List Exception → Type 0 = λ x. IsMadeOf table job.patterns x in
    subst Q e (subst P p is)

pub settable : (job : Job) (stock : List Font) → JobFits job → length stock ≡ length job.fonts → All (IsSettable (length stock)) job.pars
settable job stock fits count =
    let P : ℕ → Type 0 = λ n. All (IsSettable n) job.pars in
    subst P (sym count) (job-settable job fits)
