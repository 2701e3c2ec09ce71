-- The pages in slots, one after another.
--     filled-none, filled-more           slots that are filled with entries, one after another
--     behind                             pages that are told, and what comes behind them
--     next-slot, fault-slot, all-slots   one page more is told, a fault is, and no slot is left
--     pages_in-told                      the slots of paragraphs that were set have their pages
--     slots-are                          slots of which each has a page
--     pages-over                         these pages fit the stock
--     pages-count                        and they are as many
--     all-full                           the slots of paragraphs that were set are full
--     job-told, job-refused              what a job comes to whose slots these are
--     owners-used                        who has owners where each slot has a page
use Rattle.std.proofs.Common.{◌≡◌, ℕ, ◌+◌, refl, ap, sym, ◌∙◌, subst, List, [], ◌∷◌, ◌++◌, append_assoc, append-nil, map, set, length, All, Some, None, Result, Ok, Err}
use Rattle.std.proofs.lemmas.List.{length-map}
use Rattle.std.proofs.lemmas.List.Elements.{All-nil, All-cons, All-head, All-tail}
use Rattle.font_stock.specs.declared.font.Font.{Font}
use Rattle.micro_num.specs.declared.paragraph.Par.{Par}
use Rattle.hlist_build.specs.declared.fault.ParFault.{ParFault}
use Rattle.instance_core.specs.declared.font.BaseFont.{BaseFont}
use Rattle.instance_core.specs.declared.page.Owner.{Owner}
use Rattle.instance_core.specs.declared.page.Page.{Page}
use Rattle.job_text.specs.declared.job.Job.{Job}
use Rattle.para_workers.specs.declared.fault.ParAt.{ParAt}
use Rattle.para_workers.specs.Fitting.{IsPageOver}
use Rattle.para_workers.specs.declared.fault.SetFault.{SetFault}
use Rattle.para_workers.specs.declared.fault.SetFault.TheVariants.{Par as par_fault, NoMemory}
use Rattle.para_workers.specs.Pages.{SetsPages, page_of_one, pages_from, pages_of, pages_with, places_for}
use Rattle.para_threads.specs.declared.done.DoneAt.{DoneAt}
use Rattle.renumber.specs.Uses.{used}
use Rattle.para_threads.specs.SetJobs.{Owns, SetsJob}
use Rattle.para_threads.specs.Slots.{IsFull, IsSlotOver, Slot, filled, pages_in, slot_of}

pub filled-none : (slots : List Slot) → filled slots [] ≡ slots
unfolding filled
filled-none slots = refl

pub filled-more : (slots : List Slot) (one : DoneAt) (done : List DoneAt) → filled slots (one ∷ done) ≡ filled (set slots one.place (Some one.page)) done
unfolding filled
filled-more slots one done = refl

abbrev pub behind : List Page → Result (List Page) ParAt → Result (List Page) ParAt
behind done (Err at) = Err at
behind done (Ok pages) = Ok (done ++ pages)

behind-page : (done : List Page) (page : Page) (number : ℕ) (rest : Result (List Page) ParAt)
    → behind done (pages_with number (Ok page) rest) ≡ behind (done ++ page ∷ []) rest
behind-page done page number (Err at) = refl
behind-page done page number (Ok pages) = ap (λ ps. Ok ps) (sym (append_assoc done (page ∷ []) pages))

pub next-slot : (number : ℕ) (page : Page) (slots : List Slot) (done : List Page) (whole : Result (List Page) ParAt)
    → behind done (pages_in number (Some (Ok page) ∷ slots)) ≡ whole → behind (done ++ page ∷ []) (pages_in (number + 1) slots) ≡ whole
unfolding pages_in
next-slot number page slots done whole all = sym (behind-page done page number (pages_in (number + 1) slots)) ∙ all

pub fault-slot : (number : ℕ) (fault : ParFault) (slots : List Slot) (done : List Page) (whole : Result (List Page) ParAt)
    → behind done (pages_in number (Some (Err fault) ∷ slots)) ≡ whole → whole ≡ Err (record { paragraph = number; fault = fault })
unfolding pages_in
fault-slot number fault slots done whole all = sym all

pub all-slots : (number : ℕ) (slots : List Slot) (done : List Page) (whole : Result (List Page) ParAt) → slots ≡ []
    → behind done (pages_in number slots) ≡ whole → whole ≡ Ok done
unfolding pages_in
all-slots number slots done whole none all =
    sym all ∙ ap (λ ss. behind done (pages_in number ss)) none ∙ ap (λ ps. Ok ps) (append-nil done)

pub pages_in-told : (job : Job) (stock : List Font) (number : ℕ) (pars : List Par)
    → pages_in number (map (slot_of job stock) pars) ≡ pages_from job.tables (places_for job) stock number pars
unfolding pages_in pages_from
pages_in-told job stock number [] = refl
pages_in-told job stock number (par ∷ pars) =
    ap (pages_with number (page_of_one job.tables (places_for job) stock par)) (pages_in-told job stock (number + 1) pars)

abbrev pub slot_with : Page → Slot
slot_with page = Some (Ok page)

pub slots-are : (number : ℕ) (slots : List Slot) (pages : List Page) → All IsFull slots → pages_in number slots ≡ Ok pages → slots ≡ map slot_with pages
unfolding pages_in
slots-are number [] pages full is = let none : [] ≡ pages = cc in ap (map slot_with) none
slots-are number (None ∷ slots) pages full is = absurd (All-head IsFull None slots full)
slots-are number (Some (Err fault) ∷ slots) pages full is = absurd cc
slots-are number (Some (Ok page) ∷ slots) pages full is =
    either (pages_in (number + 1) slots) refl is (λ more known. slots-are (number + 1) slots more (All-tail IsFull (Some (Ok page)) slots full) known)
  where
    either : (rest : Result (List Page) ParAt) → pages_in (number + 1) slots ≡ rest → pages_with number (Ok page) rest ≡ Ok pages
        → ((more : List Page) → pages_in (number + 1) slots ≡ Ok more → slots ≡ map slot_with more)
        → Some (Ok page) ∷ slots ≡ map slot_with pages
    either (Err at) known all later = absurd cc
    either (Ok more) known all later =
        let same : page ∷ more ≡ pages = cc in
        ap (λ (ss : List Slot). Some (Ok page) ∷ ss) (later more known) ∙ ap (map slot_with) same

slots-over : (stock : List Font) (pages : List Page) → All (IsSlotOver stock) (map slot_with pages) → All (IsPageOver stock) pages
slots-over stock [] over = All-nil (IsPageOver stock)
slots-over stock (page ∷ pages) over =
    All-cons (IsPageOver stock) page pages (All-head (IsSlotOver stock) (slot_with page) (map slot_with pages) over)
    (slots-over stock pages (All-tail (IsSlotOver stock) (slot_with page) (map slot_with pages) over))

pub pages-over : (stock : List Font) (slots : List Slot) (pages : List Page) → All IsFull slots → All (IsSlotOver stock) slots → pages_in 1 slots ≡ Ok pages
    → All (IsPageOver stock) pages
pages-over stock slots pages full over is =
    slots-over stock pages (subst (All (IsSlotOver stock)) (slots-are 1 slots pages full is) over)

pub pages-count : (job : Job) (stock : List Font) (slots : List Slot) (pages : List Page) → slots ≡ map (slot_of job stock) job.pars → All IsFull slots → pages_in 1 slots ≡ Ok pages
    → length pages ≡ length job.pars
pages-count job stock slots pages told full is =
    sym (length-map pages slot_with) ∙ ap length (sym (slots-are 1 slots pages full is) ∙ told) ∙ length-map job.pars (slot_of job stock)

pub all-full : (job : Job) (stock : List Font) (pars : List Par) → All IsFull (map (slot_of job stock) pars)
all-full job stock [] = All-nil IsFull
all-full job stock (par ∷ pars) = All-cons IsFull (slot_of job stock par) (map (slot_of job stock) pars) tt (all-full job stock pars)

pub job-told : (job : Job) (stock : List Font) (slots : List Slot) → slots ≡ map (slot_of job stock) job.pars → pages_in 1 slots ≡ pages_of job stock
job-told job stock slots is = ap (pages_in 1) is ∙ pages_in-told job stock 1 job.pars

pub job-refused : (job : Job) (stock : List Font) (slots : List Slot) (fault : SetFault) → slots ≡ map (slot_of job stock) job.pars
    → SetsPages (pages_in 1 slots) (Err fault) → SetsJob (pages_of job stock) (Err fault)
job-refused job stock slots (par_fault at) is answer = sym (job-told job stock slots is) ∙ answer
job-refused job stock slots NoMemory is answer = tt

pub owners-used : (fonts : List BaseFont) (told : Result (List Page) ParAt) (pages : List Page) (owners : List Owner) → told ≡ Ok pages
    → Owns fonts told owners → map (λ (owner : Owner). owner.cell) owners ≡ used fonts pages
owners-used fonts (Ok all) pages owners is owns = let same : all ≡ pages = cc in owns ∙ ap (used fonts) same
owners-used fonts (Err at) pages owners is owns = absurd cc
