-- The headline follows from what a run does, and from what the told files determine.
--     built_told      who built instances, as the end of a run tells it
--     headline_run    the headline of a whole run
use Rattle.std.proofs.Common.{◌≡◌, ℕ, List, length, refl, sym, ◌∙◌, ap, subst, Option, Some, None, IfSome, IsSome, Result, Ok, Err, IfOk, ◌⊎◌, inl, inr}
use Rattle.instance_table.specs.declared.closing.Closed.{Closed}
use Rattle.micro_words.specs.Commands.{cmd_of}
use Rattle.micro_words.specs.declared.command.Cmd.{Cmd}
use Rattle.micro_texts.specs.declared.answer.Answer.{Answer}
use Rattle.micro_texts.specs.declared.answer.Answer.TheVariants.{NoMemory}
use Rattle.std.specs.Io.KnownBytes.{Appends}
use Rattle.micro_document.specs.declared.made.Made.{Made}
use Rattle.micro_document.specs.declared.stop.Stop.{Stop}
use Rattle.micro_document.specs.Document.{Doc}
use Rattle.micro_document.specs.Finding.{AreReads, Comes}
use Rattle.micro_document.specs.Making.{AreBuilt, IsBuiltBy, IsMade, IsMadeBy}
use Rattle.micro_document.specs.Outcome.{Instances, Output, Outcome}
use Rattle.micro_document.specs.Outcome.Outcome.{Wants, Refuses, Gives}
use Rattle.micro_document.specs.Words.{workers_of}
use Rattle.pdfmicro_run.specs.declared.ending.RunEnd.{RunEnd}
use Rattle.pdfmicro_run.specs.Headline.{IsFaultless, IsBuilt, IsWell, IsRefused, Follows, Headline}
use Rattle.pdfmicro_run.specs.Ran.{Outside, Tells, IsWritten, IsInterrupted, Says, Exact}

-- ---- who built instances

none_built : (workers : ℕ) (closed : Option Closed) → closed ≡ None → IfSome closed (IsBuiltBy workers)
none_built workers closed none =
    let P : Option Closed → Type 0 = λ c. IfSome c (IsBuiltBy workers) in
    subst P (sym none) tt

pub built_told : (workers : ℕ) (found : Result Made Stop) (before after : Outside) (end : RunEnd) → Tells found before after end → IfOk found (IsMadeBy workers) → IfSome end.closed (IsBuiltBy workers)
built_told workers (Ok made) before after end (inl written) by =
    let P : Option Closed → Type 0 = λ c. IfSome c (IsBuiltBy workers) in
    subst P (sym written.closed) by
built_told workers (Ok made) before after end (inr (inl broken)) by = none_built workers end.closed broken.closed
built_told workers (Ok made) before after end (inr (inr hushed)) by = none_built workers end.closed hushed.closed
built_told workers (Err stop) before after end told by = none_built workers end.closed told.closed

-- a receipt that was handed on
handed_on : (workers : ℕ) (instances : Instances) (end : RunEnd) (closed : Option Closed) → end.closed ≡ closed → AreBuilt (Some instances) closed → IfSome closed (IsBuiltBy workers) → IsBuilt workers instances end
handed_on workers instances end None e built by = absurd built
handed_on workers instances end (Some receipt) e built by = record { receipt = receipt; handed_on = e; of_used = built; by_workers = by }

some_built : (workers : ℕ) (instances : Option Instances) (end : RunEnd) (closed : Option Closed) → end.closed ≡ closed → AreBuilt instances closed → IfSome closed (IsBuiltBy workers)
    → IfSome instances (λ i. IsBuilt workers i end)
some_built workers None end closed e built by = tt
some_built workers (Some instances) end closed e built by = handed_on workers instances end closed e built by

-- ---- an output

well : (workers : ℕ) (output : Output) (made : Made) (before after : Outside) (end : RunEnd) → IsMade output made → IfSome end.closed (IsBuiltBy workers) → IsWritten made before after end → IsWell workers output before after end
well workers output made before after end is by written =
    let P : List ℕ → Type 0 = Appends before.out.written after.out.written in
    let Q : Option Closed → Type 0 = AreBuilt output.instances in
    record {
      answer = written.answer;
      bytes = subst P is.out written.out.0;
      built = some_built workers output.instances end end.closed refl (subst Q (sym written.closed) is.built) by;
    }

output_told : (workers file : ℕ) (output : Output) (found : Result Made Stop) (before after : Outside) (end : RunEnd) → IsFaultless before after → IfSome end.closed (IsBuiltBy workers)
    → Comes (Gives output) file before.shelf after.shelf found → Tells found before after end → IsWell workers output before after end
output_told workers file output (Err stop) before after end faultless by comes tells = absurd comes
output_told workers file output (Ok made) before after end faultless by comes (inl written) = well workers output made before after end comes by written
output_told workers file output (Ok made) before after end faultless by comes (inr (inl broken)) = absurd (faultless.out broken.cause)
output_told workers file output (Ok made) before after end faultless by comes (inr (inr hushed)) = absurd (faultless.talk hushed.cause)

-- ---- a refusal

refusal_told : (file : ℕ) (fault : Answer) (found : Result Made Stop) (before after : Outside) (end : RunEnd) → Comes (Refuses fault) file before.shelf after.shelf found → Tells found before after end
    → IsRefused fault before after end ⊎ (end.answer ≡ NoMemory)
refusal_told file fault (Ok made) before after end comes tells = absurd comes
refusal_told file fault (Err stop) before after end comes told =
    let answer : stop.answer ≡ fault = ap (λ (s : Stop). s.answer) comes in
    elim told.says as (λ _. IsRefused fault before after end ⊎ (end.answer ≡ NoMemory)) [
      | inl says ↦ inl (record { answer = says.0 ∙ answer; out = told.out })
      | inr lost ↦ inr lost.0
    ]

-- ---- both

-- unless the run was interrupted
followed : (workers file : ℕ) (outcome : Outcome) (before after : Outside) (end : RunEnd) → IsFaultless before after → IfSome end.closed (IsBuiltBy workers)
    → IsInterrupted file before after end.answer ⊎ Says outcome file before after end → Follows workers outcome before after end ⊎ (end.answer ≡ NoMemory)
followed workers file outcome before after end faultless by (inl (inl none)) = inr none
followed workers file outcome before after end faultless by (inl (inr lost)) = absurd (faultless.shelf lost.cause)
followed workers file outcome before after end faultless by (inr says) = by_outcome outcome says.comes
  where
    by_outcome : (o : Outcome) → Comes o file before.shelf after.shelf says.found → Follows workers o before after end ⊎ (end.answer ≡ NoMemory)
    by_outcome (Wants name) comes = inl tt
    by_outcome (Gives output) comes = inl (output_told workers file output says.found before after end faultless by comes says.tells)
    by_outcome (Refuses fault) comes = refusal_told file fault says.found before after end comes says.tells

workers_are : (command : Option Cmd) (cmd : Cmd) (end : RunEnd) → command ≡ Some cmd → IfSome end.closed (IsBuiltBy (workers_of command)) → IfSome end.closed (IsBuiltBy cmd.workers)
workers_are command cmd end is by =
    let P : Option Cmd → Type 0 = λ c. IfSome end.closed (IsBuiltBy (workers_of c)) in
    subst P is by

-- what wants a file comes to nothing here, whether or not it can be read
outcome_told : (words : List (List ℕ)) (before after : Outside) (end : RunEnd) (cmd : Cmd) (reads : List (List ℕ)) (outcome : Outcome) → Exact (Doc words) before after end → IsFaultless before after
    → IfSome end.closed (IsBuiltBy cmd.workers) → IsSome before.shelf.files → AreReads (Doc words) before.shelf.files reads → Doc words reads outcome → Follows cmd.workers outcome before after end ⊎ (end.answer ≡ NoMemory)
outcome_told words before after end cmd reads (Wants name) exact faultless by some each is = inl tt
outcome_told words before after end cmd reads (Gives output) exact faultless by some each is = followed cmd.workers (length reads) (Gives output) before after end faultless by (exact reads (Gives output) some each is tt)
outcome_told words before after end cmd reads (Refuses fault) exact faultless by some each is = followed cmd.workers (length reads) (Refuses fault) before after end faultless by (exact reads (Refuses fault) some each is tt)

pub headline_run : (words : List (List ℕ)) (before after : Outside) (end : RunEnd) → Exact (Doc words) before after end → IfSome end.closed (IsBuiltBy (workers_of (cmd_of words))) → Headline words before after end
headline_run words before after end exact by = λ cmd reads outcome command some each is faultless.
    outcome_told words before after end cmd reads outcome exact faultless (workers_are (cmd_of words) cmd end command by) some each is
