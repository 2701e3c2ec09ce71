-- Words that are no command are told by an answer that nothing else has.
--     bad_told     it is the answer, or memory ran out
--     only_told    where it is the answer, the words are none
use Rattle.std.proofs.Common.{◌≡◌, Result, Ok, Err, sym, ◌∙◌, ◌⊎◌, inl, inr}
use Rattle.std.specs.Prelude.{IfErr}
use Rattle.micro_texts.specs.declared.answer.Answer.{Answer}
use Rattle.micro_texts.specs.declared.answer.Answer.TheVariants.{BadWords, NoMemory, Done, OutFault, TalkFault}
use Rattle.micro_document.specs.declared.made.Made.{Made}
use Rattle.micro_document.specs.declared.stop.Stop.{Stop}
use Rattle.micro_document.specs.Stopping.{stop_of}
use Rattle.pdfmicro_run.specs.declared.ending.RunEnd.{RunEnd}
use Rattle.pdfmicro_run.specs.Ran.{Outside, Tells}
use Rattle.pdfmicro_run.proofs.ExactRuns.{answer_told}

either : (answer : Answer) → (answer ≡ NoMemory) ⊎ (answer ≡ NoMemory) → (answer ≡ BadWords) ⊎ (answer ≡ NoMemory)
either answer (inl is) = inr is
either answer (inr is) = inr is

pub bad_told : (found : Result Made Stop) (before after : Outside) (end : RunEnd) → Tells found before after end → (found ≡ Err (stop_of BadWords)) ⊎ (found ≡ Err (stop_of NoMemory)) → (end.answer ≡ BadWords) ⊎ (end.answer ≡ NoMemory)
bad_told found before after end tells (inl is) = answer_told found (stop_of BadWords) before after end is tells
bad_told found before after end tells (inr is) = either end.answer (answer_told found (stop_of NoMemory) before after end is tells)

pub only_told : (X : Type 0) (found : Result Made Stop) (before after : Outside) (end : RunEnd) → Tells found before after end → IfErr found (λ stop. stop.answer ≡ BadWords → X) → end.answer ≡ BadWords → X
only_told X (Ok made) before after end (inl written) only is = let e : Done ≡ BadWords = sym written.answer ∙ is in absurd cc
only_told X (Ok made) before after end (inr (inl broken)) only is = let e : OutFault ≡ BadWords = sym broken.answer ∙ is in absurd cc
only_told X (Ok made) before after end (inr (inr hushed)) only is = let e : TalkFault ≡ BadWords = sym hushed.answer ∙ is in absurd cc
only_told X (Err stop) before after end told only is =
    elim told.says as (λ _. X) [
      | inl says ↦ only (sym says.0 ∙ is)
      | inr lost ↦ let e : NoMemory ≡ BadWords = sym lost.0 ∙ is in absurd cc
    ]
