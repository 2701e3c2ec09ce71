-- Words and the bytes of the files that were read have at most one outcome.
use Rattle.std.proofs.Common.{◌≡◌, ℕ, List, [], ◌∷◌, ◌++◌, length, replicate, Option, Some, None, sym, ◌∙◌, subst, inl, inr}
use Rattle.font_stock.specs.declared.font.Font.{Font}
use Rattle.job_text.specs.Answers.{said_of}
use Rattle.job_text.specs.declared.font_decl.FontDecl.{FontDecl}
use Rattle.job_text.specs.declared.job.Job.{Job}
use Rattle.job_text.proofs.JobOnce.{job_once, fault_once, job_no_fault}
use Rattle.job_fonts.proofs.OneAnswer.{one_font, one_fault, font_or_fault}
use Rattle.micro_texts.specs.declared.answer.Answer.TheVariants.{Job as job_fault, Font as font_fault}
use Rattle.micro_document.specs.Outcome.{Outcome, AtMostOne}
use Rattle.micro_document.specs.Outcome.Outcome.{Refuses}
use Rattle.micro_words.specs.Commands.{cmd_of}
use Rattle.micro_words.specs.declared.command.Cmd.{Cmd}
use Rattle.micro_words.specs.declared.command.CommandKind.{CommandKind}
use Rattle.micro_words.specs.declared.command.CommandKind.TheVariants.{Set, Breaks, Gen}
use Rattle.micro_document.specs.Document.{Finish, FontsFrom, JobFrom, FilesFrom, GivenFrom, KindFrom, DocOf, Doc}
use Rattle.micro_document.proofs.SameJobs.{same_job}

one_fonts : (finish : Finish) (job : Job) (stock : List Font) (decls : List FontDecl) (reads : List (List ℕ)) (a b : Outcome) → FontsFrom finish job stock decls reads a → FontsFrom finish job stock decls reads b → a ≡ b
one_fonts finish job stock [] reads a b p q = p ∙ sym q
one_fonts finish job stock (decl ∷ decls) [] a b p q = p ∙ sym q
one_fonts finish job stock (decl ∷ decls) (bytes ∷ reads) a b (inl p) (inl q) =
    let same = one_fault decl bytes p.kind q.kind p.word q.word p.fault q.fault in
    p.is ∙ (λ i. Refuses (font_fault (length stock) (same.0 i) (same.1 i))) ∙ sym q.is
one_fonts finish job stock (decl ∷ decls) (bytes ∷ reads) a b (inl p) (inr q) = absurd (font_or_fault decl bytes q.0 p.kind p.word q.1 p.fault)
one_fonts finish job stock (decl ∷ decls) (bytes ∷ reads) a b (inr p) (inl q) = absurd (font_or_fault decl bytes p.0 q.kind q.word p.1 q.fault)
one_fonts finish job stock (decl ∷ decls) (bytes ∷ reads) a b (inr p) (inr q) =
    let P : Font → Type 0 = λ font. FontsFrom finish job (stock ++ font ∷ []) decls reads a in
    one_fonts finish job (stock ++ q.0 ∷ []) decls reads a b (subst P (one_font decl bytes p.0 q.0 p.1 q.1) p.2) q.2

one_job : (finish : Finish) (bytes : List ℕ) (reads : List (List ℕ)) (a b : Outcome) → JobFrom finish bytes reads a → JobFrom finish bytes reads b → a ≡ b
one_job finish bytes reads a b (inl p) (inl q) =
    let same = fault_once bytes p.place q.place p.kind q.kind p.fault q.fault in
    p.is ∙ (λ i. Refuses (job_fault (same.0 i) (same.1 i))) ∙ sym q.is
one_job finish bytes reads a b (inl p) (inr q) = absurd (job_no_fault bytes (said_of q.0) p.place p.kind q.1 p.fault)
one_job finish bytes reads a b (inr p) (inl q) = absurd (job_no_fault bytes (said_of p.0) q.place q.kind p.1 q.fault)
one_job finish bytes reads a b (inr p) (inr q) =
    let P : Job → Type 0 = λ job. FontsFrom finish job [] job.fonts reads a in
    let same = same_job p.0 q.0 (job_once bytes (said_of p.0) (said_of q.0) p.1 q.1) in
    one_fonts finish q.0 [] q.0.fonts reads a b (subst P same p.2) q.2

one_files : (finish : Finish) (name : List ℕ) (reads : List (List ℕ)) (a b : Outcome) → FilesFrom finish name reads a → FilesFrom finish name reads b → a ≡ b
one_files finish name [] a b p q = p ∙ sym q
one_files finish name (bytes ∷ reads) a b p q = one_job finish bytes reads a b p q

one_given : (finish : Finish) (bytes font : List ℕ) (a b : Outcome) → GivenFrom finish bytes font a → GivenFrom finish bytes font b → a ≡ b
one_given finish bytes font a b (inl p) (inl q) =
    let same = fault_once bytes p.place q.place p.kind q.kind p.fault q.fault in
    p.is ∙ (λ i. Refuses (job_fault (same.0 i) (same.1 i))) ∙ sym q.is
one_given finish bytes font a b (inl p) (inr q) = absurd (job_no_fault bytes (said_of q.0) p.place p.kind q.1 p.fault)
one_given finish bytes font a b (inr p) (inl q) = absurd (job_no_fault bytes (said_of p.0) q.place q.kind p.1 q.fault)
one_given finish bytes font a b (inr p) (inr q) =
    let P : Job → Type 0 = λ job. FontsFrom finish job [] job.fonts (replicate (length job.fonts) font) a in
    let same = same_job p.0 q.0 (job_once bytes (said_of p.0) (said_of q.0) p.1 q.1) in
    one_fonts finish q.0 [] q.0.fonts (replicate (length q.0.fonts) font) a b (subst P same p.2) q.2

one_kind : (kind : CommandKind) (cmd : Cmd) → AtMostOne (KindFrom kind cmd)
one_kind Set cmd reads a b p q = one_files _ _ reads a b p q
one_kind Breaks cmd reads a b p q = one_files _ _ reads a b p q
one_kind Gen cmd reads a b p q = one_given _ _ _ a b p q

one_of : (command : Option Cmd) → AtMostOne (DocOf command)
one_of None reads a b p q = p ∙ sym q
one_of (Some cmd) reads a b p q = one_kind cmd.command cmd reads a b p q

pub one_outcome : (words : List (List ℕ)) → AtMostOne (Doc words)
one_outcome words = one_of (cmd_of words)
