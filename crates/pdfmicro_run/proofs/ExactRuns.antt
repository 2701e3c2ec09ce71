-- Where the files are told, they determine what is found, and so how a run ends.
--     one_file, same_bytes       a name has one file
--     meets                      two lists of reads, of which the first leads to its last outcome
--     exact_run, complete_run    what is said of a whole run
use Rattle.std.proofs.Common.{◌≡◌, ℕ, ◌+◌, ◌<◌, ◌≤◌, List, [], ◌∷◌, length, get_or, refl, sym, ◌∙◌, ap, subst, arith}
use Rattle.std.proofs.Common.{Some, None, IfSome, IsSome, Result, Ok, Err, ◌⊎◌, inl, inr}
use Rattle.std.proofs.lemmas.Bool.{cases_order, false≢true}
use Rattle.std.proofs.lemmas.List.{get_or_default}
use Rattle.outside_io.specs.Counts.{Rose}
use Rattle.outside_io.specs.Reading.{NamesDiffer, HasFile}
use Rattle.outside_io.specs.States.{ShelfState}
use Rattle.micro_texts.specs.declared.answer.Answer.{Answer}
use Rattle.micro_texts.specs.declared.answer.Answer.TheVariants.{ReadFault, NoMemory}
use Rattle.micro_document.specs.declared.made.Made.{Made}
use Rattle.micro_document.specs.declared.stop.Stop.{Stop}
use Rattle.micro_document.specs.Outcome.{Output, Outcome, Document, behind, AtMostOne}
use Rattle.micro_document.specs.Outcome.Outcome.{Wants, Gives}
use Rattle.micro_document.specs.Finding.{Files, WasRead, IsMissing, IsTooBig, AreReads, Misses, Comes, IsDecided, IsUndecided}
use Rattle.micro_document.specs.Finding.Misses.{is_absent, is_too_long, has_failed, is_unread}
use Rattle.micro_document.specs.Stopping.{stop_of, stop_at}
use Rattle.micro_document.proofs.Findings.{stays_same, comes_before}
use Rattle.pdfmicro_run.specs.declared.ending.RunEnd.{RunEnd}
use Rattle.pdfmicro_run.specs.Ran.{Outside, Tells, Ran, IsLast, Says, IsInterrupted, Exact, IsDone, Complete}

-- two files at places in a list in which no two have one name
same_place : (files : List (List ℕ × List ℕ)) (name a b : List ℕ) (i j : ℕ) → NamesDiffer files → i < length files → j < length files → get_or files i (name, a) ≡ (name, a) → get_or files j (name, b) ≡ (name, b) → (i ≡ j) ⊎ ((i < j) ⊎ (j < i)) → a ≡ b
same_place files name a b i j differ hi hj e f (inl same) =
    let P : ℕ → Type 0 = λ k. get_or files k (name, b) ≡ (name, b) in
    let at_i = subst P (sym same) f in
    ap (λ (file : List ℕ × List ℕ). file.1) (sym e ∙ get_or_default files i (name, a) (name, b) hi ∙ at_i)
same_place files name a b i j differ hi hj e f (inr (inl before)) =
    absurd (differ i j (name, a) before hj
    (ap (λ (file : List ℕ × List ℕ). file.0) e ∙ sym (ap (λ (file : List ℕ × List ℕ). file.0) (get_or_default files j (name, a) (name, b) hj ∙ f))))
same_place files name a b i j differ hi hj e f (inr (inr after)) =
    absurd (differ j i (name, a) after hi
    (ap (λ (file : List ℕ × List ℕ). file.0) (get_or_default files j (name, a) (name, b) hj ∙ f) ∙ sym (ap (λ (file : List ℕ × List ℕ). file.0) e)))

one_file : (files : List (List ℕ × List ℕ)) (name a b : List ℕ) → NamesDiffer files → HasFile files name a → HasFile files name b → a ≡ b
one_file files name a b differ (i, hi, e) (j, hj, f) = same_place files name a b i j differ hi hj e f (cases_order i j)

same_bytes : (files : Files) (name a b : List ℕ) → IsSome files → IfSome files NamesDiffer → WasRead files name a → WasRead files name b → a ≡ b
same_bytes None name a b some differ p q = absurd (false≢true some)
same_bytes (Some told) name a b some differ p q = one_file told name a b differ p.told q.told

not_missing : (files : Files) (name bytes : List ℕ) → IsSome files → IsMissing files name → WasRead files name bytes → ⊥
not_missing None name bytes some missing read = absurd (false≢true some)
not_missing (Some told) name bytes some missing read = missing bytes read.told

not_too_big : (files : Files) (name bytes : List ℕ) → IsSome files → IfSome files NamesDiffer → IsTooBig files name → WasRead files name bytes → ⊥
not_too_big None name bytes some differ big read = absurd (false≢true some)
not_too_big (Some told) name bytes some differ (others, has, past) read =
    let same : length others ≡ length bytes = ap length (one_file told name others bytes differ has read.told) in
    omega (arith, same, past, read.within)

-- a file that can be read is not the last that is wanted
not_last : (files : Files) (outcome : Outcome) (name bytes : List ℕ) → IsSome files → IfSome files NamesDiffer → outcome ≡ Wants name → WasRead files name bytes → IsLast files outcome → ⊥
not_last files outcome name bytes some differ is read last =
    let P : Outcome → Type 0 = IsLast files in
    elim (subst P is last) as (λ _. ⊥) [
      | inl missing ↦ not_missing files name bytes some missing read
      | inr big ↦ not_too_big files name bytes some differ big read
    ]

-- The second list is the first, or a front of it, behind which one more file was read.
data Meets (files : Files) (reads others : List (List ℕ)) (outcome other : Outcome) : Type 0 where
  are_same : length others ≡ length reads → other ≡ outcome → Meets files reads others outcome other
  is_front : (name bytes : List ℕ) → other ≡ Wants name → WasRead files name bytes → length others ≤ length reads → Meets files reads others outcome other

longer : (files : Files) (a b : List ℕ) (reads others : List (List ℕ)) (outcome other : Outcome) → Meets files reads others outcome other → Meets files (a ∷ reads) (b ∷ others) outcome other
longer files a b reads others outcome other (are_same count is) = are_same (omega (arith, count)) is
longer files a b reads others outcome other (is_front name bytes is read within) = is_front name bytes is read (omega (arith, within))

one_name : (a b : List ℕ) → Wants a ≡ Wants b → a ≡ b
one_name a b e = cc

meets : (D : Document) (files : Files) → IsSome files → IfSome files NamesDiffer → AtMostOne D → (reads others : List (List ℕ)) (outcome other : Outcome) → AreReads D files reads → AreReads D files others
    → D reads outcome → IsLast files outcome → D others other → Meets files reads others outcome other
meets D files some differ one [] [] outcome other p q is last at = are_same refl (one [] other outcome at is)
meets D files some differ one [] (b ∷ others) outcome other p q is last at =
    absurd (not_last files outcome q.0.name b some differ (one [] outcome (Wants q.0.name) is q.0.wanted) q.0.read last)
meets D files some differ one (a ∷ reads) [] outcome other p q is last at =
    is_front p.0.name a (one [] other (Wants p.0.name) at p.0.wanted) p.0.read (omega arith)
meets D files some differ one (a ∷ reads) (b ∷ others) outcome other p q is last at =
    let names : q.0.name ≡ p.0.name = one_name q.0.name p.0.name (one [] (Wants q.0.name) (Wants p.0.name) q.0.wanted p.0.wanted) in
    let N : List ℕ → Type 0 = λ name. WasRead files name b in
    let same : b ≡ a = same_bytes files p.0.name b a some differ (subst N names q.0.read) p.0.read in
    let P : List ℕ → Type 0 = λ z. AreReads (behind D z) files others in
    let Q : List ℕ → Type 0 = λ z. D (z ∷ others) other in
    longer files a b reads others outcome other
    (meets (behind D a) files some differ (λ r x y. one (a ∷ r) x y) reads others outcome other p.1 (subst P same q.1) is last (subst Q same at))

-- ---- what was found

record IsLostRead (files : ℕ) (shelf later : ShelfState) (found : Result Made Stop) : Type 0 where
  file : ℕ
  name : List ℕ
  within : file ≤ files
  is : found ≡ Err (stop_at name (ReadFault file))
  cause : Rose shelf.faults later.faults

abbrev IsStopped : ℕ → ShelfState → ShelfState → Result Made Stop → Type 0
IsStopped files shelf later found = (found ≡ Err (stop_of NoMemory)) ⊎ IsLostRead files shelf later found

-- a file was wanted that can be read
stopped_missing : (files file : ℕ) (name bytes : List ℕ) (shelf later : ShelfState) (stop : Stop) → file ≤ files → IsSome shelf.files → IfSome shelf.files NamesDiffer → WasRead shelf.files name bytes
    → Misses name file shelf later stop → IsStopped files shelf later (Err stop)
stopped_missing files file name bytes shelf later stop within some differ read (is_absent is rose missing) = absurd (not_missing shelf.files name bytes some missing read)
stopped_missing files file name bytes shelf later stop within some differ read (is_too_long is rose big) = absurd (not_too_big shelf.files name bytes some differ big read)
stopped_missing files file name bytes shelf later stop within some differ read (has_failed is rose) = inr (record { file = file; name = name; within = within; is = ap Err is; cause = rose })
stopped_missing files file name bytes shelf later stop within some differ read (is_unread is) = inl (ap Err is)

stopped : (files file : ℕ) (name bytes : List ℕ) (shelf later : ShelfState) (found : Result Made Stop) → file ≤ files → IsSome shelf.files → IfSome shelf.files NamesDiffer → WasRead shelf.files name bytes
    → Comes (Wants name) file shelf later found → IsStopped files shelf later found
stopped files file name bytes shelf later (Ok made) within some differ read comes = absurd comes
stopped files file name bytes shelf later (Err stop) within some differ read comes = stopped_missing files file name bytes shelf later stop within some differ read comes

met : (first : ℕ) (shelf later : ShelfState) (found : Result Made Stop) (reads others : List (List ℕ)) (outcome other : Outcome) → IsSome shelf.files → IfSome shelf.files NamesDiffer
    → Comes other (first + length others) shelf later found → Meets shelf.files reads others outcome other
    → IsStopped (first + length reads) shelf later found ⊎ Comes outcome (first + length reads) shelf later found
met first shelf later found reads others outcome other some differ comes (are_same count is) =
    let P : Outcome → Type 0 = λ o. Comes o (first + length others) shelf later found in
    inr (comes_before outcome (first + length reads) (first + length others) shelf shelf later found (stays_same shelf) (omega (arith, count)) (subst P is comes))
met first shelf later found reads others outcome other some differ comes (is_front name bytes is read within) =
    let P : Outcome → Type 0 = λ o. Comes o (first + length others) shelf later found in
    inl (stopped (first + length reads) (first + length others) name bytes shelf later found (omega (arith, within)) some differ read (subst P is comes))

exact_ends : (first : ℕ) (D : Document) (shelf later : ShelfState) (found : Result Made Stop) (reads others : List (List ℕ)) (outcome : Outcome) → IsSome shelf.files → IfSome shelf.files NamesDiffer → AtMostOne D
    → AreReads D shelf.files reads → AreReads D shelf.files others → D reads outcome → IsLast shelf.files outcome
    → IsDecided first D others shelf later found ⊎ IsUndecided others shelf later found
    → IsStopped (first + length reads) shelf later found ⊎ Comes outcome (first + length reads) shelf later found
exact_ends first D shelf later found reads others outcome some differ one p q is last (inl d) =
    met first shelf later found reads others outcome d.outcome some differ d.comes (meets D shelf.files some differ one reads others outcome d.outcome p q is last d.is)
exact_ends first D shelf later found reads others outcome some differ one p q is last (inr u) = inl (inl u.answer)

-- ---- what is told of it

-- the answer of a stop, or that memory ran out while its message was made
pub answer_told : (found : Result Made Stop) (stop : Stop) (before after : Outside) (end : RunEnd) → found ≡ Err stop → Tells found before after end → (end.answer ≡ stop.answer) ⊎ (end.answer ≡ NoMemory)
answer_told found stop before after end is tells =
    let P : Result Made Stop → Type 0 = λ r. Tells r before after end in
    elim (subst P is tells).says as (λ _. (end.answer ≡ stop.answer) ⊎ (end.answer ≡ NoMemory)) [
      | inl told ↦ inl told.0
      | inr lost ↦ inr lost.0
    ]

no_memory : (answer : Answer) → (answer ≡ NoMemory) ⊎ (answer ≡ NoMemory) → answer ≡ NoMemory
no_memory answer (inl is) = is
no_memory answer (inr is) = is

lost_told : (files : ℕ) (before after : Outside) (answer : Answer) (file : ℕ) → file ≤ files → Rose before.shelf.faults after.shelf.faults → (answer ≡ ReadFault file) ⊎ (answer ≡ NoMemory) → IsInterrupted files before after answer
lost_told files before after answer file within rose (inl is) = inr (record { file = file; within = within; is = is; cause = rose })
lost_told files before after answer file within rose (inr is) = inl is

interrupted : (files count : ℕ) (found : Result Made Stop) (before after : Outside) (end : RunEnd) → count ≡ files → Tells found before after end → IsStopped count before.shelf after.shelf found → IsInterrupted files before after end.answer
interrupted files count found before after end e tells (inl is) = inl (no_memory end.answer (answer_told found (stop_of NoMemory) before after end is tells))
interrupted files count found before after end e tells (inr lost) =
    lost_told files before after end.answer lost.file (omega (arith, lost.within)) lost.cause (answer_told found (stop_at lost.name (ReadFault lost.file)) before after end lost.is tells)

said : (outcome : Outcome) (files count : ℕ) (found : Result Made Stop) (before after : Outside) (end : RunEnd) → count ≡ files → Tells found before after end
    → IsStopped count before.shelf after.shelf found ⊎ Comes outcome count before.shelf after.shelf found
    → IsInterrupted files before after end.answer ⊎ Says outcome files before after end
said outcome files count found before after end e tells (inl stopped) = inl (interrupted files count found before after end e tells stopped)
said outcome files count found before after end e tells (inr comes) = inr (record {
  found = found;
  comes = comes_before outcome files count before.shelf before.shelf after.shelf found (stays_same before.shelf) e comes;
  tells = tells;
})

pub exact_run : (D : Document) (before after : Outside) (end : RunEnd) → IfSome before.shelf.files NamesDiffer → AtMostOne D → Ran D before after end → Exact D before after end
exact_run D before after end differ one ran = λ reads outcome some each is last.
    said outcome (length reads) (0 + length reads) ran.found before after end (omega arith) ran.tells
    (exact_ends 0 D before.shelf after.shelf ran.found reads ran.finds.reads outcome some differ one each ran.finds.each is last ran.finds.ends)

done_told : (output : Output) (files : ℕ) (found : Result Made Stop) (before after : Outside) (end : RunEnd) → ¬ Rose before.out.faults after.out.faults → ¬ Rose before.talk.faults after.talk.faults
    → Comes (Gives output) files before.shelf after.shelf found → Tells found before after end → IsDone end.answer
done_told output files (Err stop) before after end no_out no_talk comes tells = absurd comes
done_told output files (Ok made) before after end no_out no_talk comes (inl written) = inl written.answer
done_told output files (Ok made) before after end no_out no_talk comes (inr (inl broken)) = absurd (no_out broken.cause)
done_told output files (Ok made) before after end no_out no_talk comes (inr (inr hushed)) = absurd (no_talk hushed.cause)

done_said : (output : Output) (files : ℕ) (before after : Outside) (end : RunEnd) → ¬ Rose before.shelf.faults after.shelf.faults → ¬ Rose before.out.faults after.out.faults → ¬ Rose before.talk.faults after.talk.faults
    → IsInterrupted files before after end.answer ⊎ Says (Gives output) files before after end → IsDone end.answer
done_said output files before after end no_fault no_out no_talk (inl (inl is)) = inr is
done_said output files before after end no_fault no_out no_talk (inl (inr lost)) = absurd (no_fault lost.cause)
done_said output files before after end no_fault no_out no_talk (inr says) = done_told output files says.found before after end no_out no_talk says.comes says.tells

pub complete_run : (D : Document) (before after : Outside) (end : RunEnd) → Exact D before after end → Complete D before after end.answer
complete_run D before after end exact = λ reads output some each is no_fault no_out no_talk.
    done_said output (length reads) before after end no_fault no_out no_talk (exact reads (Gives output) some each is tt)
