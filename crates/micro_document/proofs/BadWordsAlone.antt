-- No other fault than that of the words is answered as theirs.
--     only_words, only_found     where it is the answer, the words are no command
use Rattle.std.proofs.Common.{◌≡◌, ℕ, ◌+◌, Bool, true, false, cond, nat_lt, List, [], ◌∷◌, ◌++◌, length, replicate, Option, Some, None, Result, Ok, Err, refl, sym, ◌∙◌, ap, subst, ◌⊎◌, inl, inr}
use Rattle.std.specs.Prelude.{IfErr}
use Rattle.outside_io.specs.States.{ShelfState}
use Rattle.font_stock.specs.declared.font.Font.{Font}
use Rattle.instance_core.specs.declared.page.Page.{Page}
use Rattle.job_breaks.specs.Lines.{broken_lines}
use Rattle.job_text.specs.declared.font_decl.FontDecl.{FontDecl}
use Rattle.job_text.specs.declared.job.Job.{Job}
use Rattle.para_workers.specs.declared.fault.ParAt.{ParAt}
use Rattle.para_workers.specs.Pages.{pages_of}
use Rattle.micro_words.specs.declared.command.Cmd.{Cmd}
use Rattle.micro_words.specs.declared.command.CommandKind.{CommandKind}
use Rattle.micro_words.specs.declared.command.CommandKind.TheVariants.{Set, Breaks, Gen}
use Rattle.micro_texts.specs.declared.answer.Answer.{Answer}
use Rattle.micro_texts.specs.declared.answer.Answer.TheVariants.{BadWords, NoMemory, Absent, FileTooLong, ReadFault, DviTooLong, Job as job_fault, Font as font_fault}
use Rattle.micro_document.specs.declared.made.Made.{Made}
use Rattle.micro_document.specs.declared.stop.Stop.{Stop}
use Rattle.micro_document.specs.Breaking.{lines_outcome, breaks_outcome}
use Rattle.micro_document.specs.Outcome.{Output, Outcome, Document}
use Rattle.micro_document.specs.Outcome.Outcome.{Wants, Refuses, Gives}
use Rattle.micro_document.specs.Document.{Finish, FontsFrom, FilesFrom, GivenFrom, KindFrom, DocOf}
use Rattle.micro_document.specs.Finding.{Misses, Comes, IsDecided, IsUndecided, Finds}
use Rattle.micro_document.specs.Finding.Misses.{is_absent, is_too_long, has_failed, is_unread}
use Rattle.micro_document.specs.Setting.{output_of, pages_outcome, set_outcome, talk_alone, gen_outcome}

-- ---- what a job comes to with its fonts

abbrev IsOther : Finish → Type 0
IsOther finish = (job : Job) (stock : List Font) → Refuses BadWords ≡ finish job stock → ⊥

file_allows : (output : Output) (b : Bool) → Refuses BadWords ≡ cond b (Gives output) (Refuses (DviTooLong (length output.out))) → ⊥
file_allows output true e = cc
file_allows output false e = cc

pages_allow : (report : Bool) (job : Job) (stock : List Font) (pages : Result (List Page) ParAt) → Refuses BadWords ≡ pages_outcome report job stock pages → ⊥
pages_allow report job stock (Err at) e = cc
pages_allow report job stock (Ok pages) e = file_allows (output_of report job stock pages) (nat_lt (length (output_of report job stock pages).out) 2147483648) e

setting_allows : (report : Bool) → IsOther (set_outcome report)
unfolding set_outcome
setting_allows report job stock e = pages_allow report job stock (pages_of job stock) e

lines_allow : (lines : Result (List (List ℕ)) ParAt) → Refuses BadWords ≡ lines_outcome lines → ⊥
lines_allow (Err at) e = cc
lines_allow (Ok lines) e = cc

breaking_allows : IsOther breaks_outcome
unfolding breaks_outcome
breaking_allows job stock e = lines_allow (broken_lines job stock) e

-- a refusal of talk alone is one of the whole
alone_allows : (outcome : Outcome) → (Refuses BadWords ≡ outcome → ⊥) → Refuses BadWords ≡ talk_alone outcome → ⊥
alone_allows (Wants name) other e = other e
alone_allows (Refuses fault) other e = other e
alone_allows (Gives output) other e = cc

gen_allows : IsOther gen_outcome
gen_allows job stock e = alone_allows (set_outcome true job stock) (setting_allows true job stock) e

-- ---- the document of a command

fonts_allow : (finish : Finish) → IsOther finish → (job : Job) (stock : List Font) (decls : List FontDecl) (reads : List (List ℕ)) → FontsFrom finish job stock decls reads (Refuses BadWords) → ⊥
fonts_allow finish other job stock [] reads d = other job stock d
fonts_allow finish other job stock (decl ∷ decls) [] d = cc
fonts_allow finish other job stock (decl ∷ decls) (bytes ∷ reads) (inl r) = let e : Refuses BadWords ≡ Refuses (font_fault (length stock) r.kind r.word) = r.is in cc
fonts_allow finish other job stock (decl ∷ decls) (bytes ∷ reads) (inr (font, is, d)) = fonts_allow finish other job (stock ++ font ∷ []) decls reads d

files_allow : (finish : Finish) → IsOther finish → (name : List ℕ) (reads : List (List ℕ)) → FilesFrom finish name reads (Refuses BadWords) → ⊥
files_allow finish other name [] d = cc
files_allow finish other name (bytes ∷ reads) (inl r) = let e : Refuses BadWords ≡ Refuses (job_fault r.place r.kind) = r.is in cc
files_allow finish other name (bytes ∷ reads) (inr (job, is, d)) = fonts_allow finish other job [] job.fonts reads d

given_allows : (finish : Finish) → IsOther finish → (bytes font : List ℕ) → GivenFrom finish bytes font (Refuses BadWords) → ⊥
given_allows finish other bytes font (inl r) = let e : Refuses BadWords ≡ Refuses (job_fault r.place r.kind) = r.is in cc
given_allows finish other bytes font (inr (job, is, d)) = fonts_allow finish other job [] job.fonts (replicate (length job.fonts) font) d

kinds_allow : (kind : CommandKind) (cmd : Cmd) (reads : List (List ℕ)) → KindFrom kind cmd reads (Refuses BadWords) → ⊥
kinds_allow Set cmd reads d = files_allow (set_outcome cmd.report) (setting_allows cmd.report) _ reads d
kinds_allow Breaks cmd reads d = files_allow breaks_outcome breaking_allows _ reads d
kinds_allow Gen cmd reads d = given_allows gen_outcome gen_allows _ _ d

-- ---- what is found of it

misses_allow : (name : List ℕ) (file : ℕ) (shelf later : ShelfState) (stop : Stop) → stop.answer ≡ BadWords → Misses name file shelf later stop → ⊥
misses_allow name file shelf later stop bad (is_absent is rose missing) = let e : BadWords ≡ Absent file = sym bad ∙ ap (λ (s : Stop). s.answer) is in cc
misses_allow name file shelf later stop bad (is_too_long is rose big) = let e : BadWords ≡ FileTooLong file = sym bad ∙ ap (λ (s : Stop). s.answer) is in cc
misses_allow name file shelf later stop bad (has_failed is rose) = let e : BadWords ≡ ReadFault file = sym bad ∙ ap (λ (s : Stop). s.answer) is in cc
misses_allow name file shelf later stop bad (is_unread is) = let e : BadWords ≡ NoMemory = sym bad ∙ ap (λ (s : Stop). s.answer) is in cc

comes_allow : (D : Document) (outcome : Outcome) (reads : List (List ℕ)) (file : ℕ) (shelf later : ShelfState) (stop : Stop) → (D reads (Refuses BadWords) → ⊥) → stop.answer ≡ BadWords → D reads outcome → Comes outcome file shelf later (Err stop) → ⊥
comes_allow D (Wants other) reads file shelf later stop never bad d comes = misses_allow other file shelf later stop bad comes
comes_allow D (Gives output) reads file shelf later stop never bad d comes = comes
comes_allow D (Refuses fault) reads file shelf later stop never bad d comes =
    let P : Answer → Type 0 = λ a. D reads (Refuses a) in
    never (subst P (sym (ap (λ (s : Stop). s.answer) comes) ∙ bad) d)

abbrev error_of : Result Made Stop → Answer
error_of (Ok made) = BadWords
error_of (Err stop) = stop.answer

ends_allow : (kind : CommandKind) (cmd : Cmd) (reads : List (List ℕ)) (shelf later : ShelfState) (stop : Stop) → stop.answer ≡ BadWords
    → IsDecided 0 (KindFrom kind cmd) reads shelf later (Err stop) ⊎ IsUndecided reads shelf later (Err stop) → ⊥
ends_allow kind cmd reads shelf later stop bad (inl d) = comes_allow (KindFrom kind cmd) d.outcome reads (0 + length reads) shelf later stop (kinds_allow kind cmd reads) bad d.is d.comes
ends_allow kind cmd reads shelf later stop bad (inr u) = let e : BadWords ≡ NoMemory = sym bad ∙ ap error_of u.answer in cc

pub only_words : (command : Option Cmd) (shelf later : ShelfState) (stop : Stop) → Finds 0 (DocOf command) shelf later (Err stop) → stop.answer ≡ BadWords → command ≡ None
only_words None shelf later stop f bad = refl
only_words (Some cmd) shelf later stop f bad = absurd (ends_allow cmd.command cmd f.reads shelf later stop bad f.ends)

pub only_found : (command : Option Cmd) (shelf later : ShelfState) (found : Result Made Stop) → Finds 0 (DocOf command) shelf later found → IfErr found (λ stop. stop.answer ≡ BadWords → command ≡ None)
only_found command shelf later (Ok made) f = tt
only_found command shelf later (Err stop) f = only_words command shelf later stop f
