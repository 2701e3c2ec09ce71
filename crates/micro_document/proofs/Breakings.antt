-- What is made of a job whose paragraphs are broken, and what it is refused for.
--     lines_answered     the lines of all paragraphs
--     fault_answered     the first paragraph that has no list
use Rattle.std.proofs.Common.{◌≡◌, ℕ, List, [], refl, sym, ◌∙◌, ap, subst, Option, None, Result, Ok, Err, inl}
use Rattle.font_stock.specs.declared.font.Font.{Font}
use Rattle.hlist_hyph.specs.Hyphenated.{Places, places_in}
use Rattle.liang_hyph.specs.Table.{IsMadeOf, PatternTable}
use Rattle.job_breaks.specs.Lines.{lines_from, broken_lines}
use Rattle.instance_table.specs.declared.closing.Closed.{Closed}
use Rattle.job_text.specs.declared.job.Job.{Job}
use Rattle.micro_num.specs.declared.paragraph.Par.{Par}
use Rattle.micro_num.specs.declared.params.Params.{Params}
use Rattle.para_workers.specs.declared.fault.ParAt.{ParAt}
use Rattle.para_workers.proofs.JobLaws.{places-made}
use Rattle.micro_texts.specs.declared.answer.Answer.TheVariants.{Par as par_fault}
use Rattle.micro_document.specs.declared.made.Made.{Made}
use Rattle.micro_document.specs.Breaking.{lines_outcome, breaks_outcome}
use Rattle.micro_document.specs.Making.{AreBuilt, Settles}

-- the lines of lent paragraphs are those of the job
lines_of_job : (job : Job) (stock : List Font) (table : PatternTable) (pars : List Par) → IsMadeOf table job.patterns job.exceptions → pars ≡ job.pars → lines_from job.tables (places_in table) stock 1 pars ≡ broken_lines job stock
lines_of_job job stock table pars made lent =
    ap (λ ps. lines_from job.tables (places_in table) stock 1 ps) lent
    ∙ ap (λ (places : Params → Places). lines_from job.tables places stock 1 job.pars) (places-made table job made)

unbuilt : (closed : Option Closed) → closed ≡ None → AreBuilt None closed
unbuilt closed e =
    let P : Option Closed → Type 0 = AreBuilt None in
    subst P (sym e) tt

pub lines_answered : (job : Job) (stock : List Font) (table : PatternTable) (pars : List Par) (made : Made) → IsMadeOf table job.patterns job.exceptions → pars ≡ job.pars → lines_from job.tables (places_in table) stock 1 pars ≡ Ok made.talk
    → made.out ≡ [] → made.closed ≡ None → Settles (breaks_outcome job stock) (Ok made)
unfolding breaks_outcome
lines_answered job stock table pars made is lent lines out closed =
    let P : Result (List (List ℕ)) ParAt → Type 0 = λ r. Settles (lines_outcome r) (Ok made) in
    subst P (sym (sym (lines_of_job job stock table pars is lent) ∙ lines)) (inl (record { out = out; talk = refl; built = unbuilt made.closed closed }))

pub fault_answered : (job : Job) (stock : List Font) (table : PatternTable) (pars : List Par) (at : ParAt) → IsMadeOf table job.patterns job.exceptions → pars ≡ job.pars → lines_from job.tables (places_in table) stock 1 pars ≡ Err at
    → Settles (breaks_outcome job stock) (Err (par_fault at))
unfolding breaks_outcome
fault_answered job stock table pars at is lent fault =
    let P : Result (List (List ℕ)) ParAt → Type 0 = λ r. Settles (lines_outcome r) (Err (par_fault at)) in
    subst P (sym (sym (lines_of_job job stock table pars is lent) ∙ fault)) (inl refl)
