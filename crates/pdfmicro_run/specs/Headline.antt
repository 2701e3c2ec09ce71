-- What the program promises, in one place.
--     IsFaultless before after    no read and no write failed
--     IsBuilt workers instances   each used instance was built by exactly one worker, and no other was
--     IsWell workers output       the output's bytes were written, and its instances built
--     IsRefused fault             the fault is the answer, and nothing was written to the output
--     Follows workers outcome     what the document comes to, it came to
--     Headline words              so it is, whatever the number of workers and the order of their
--                                 steps; memory may run out instead
use Rattle.std.specs.Prelude.{◌≡◌, ◌⊎◌, ⊤, ℕ, List, Some, IfSome, IsSome}
use Rattle.std.specs.Io.KnownBytes.{Appends}
use Rattle.instance_table.specs.declared.closing.Closed.{Closed}
use Rattle.outside_io.specs.Counts.{Rose}
use Rattle.micro_words.specs.Commands.{cmd_of}
use Rattle.micro_words.specs.declared.command.Cmd.{Cmd}
use Rattle.micro_texts.specs.declared.answer.Answer.{Answer}
use Rattle.micro_texts.specs.declared.answer.Answer.TheVariants.{Done, NoMemory}
use Rattle.micro_document.specs.Document.{Doc}
use Rattle.micro_document.specs.Finding.{AreReads}
use Rattle.micro_document.specs.Making.{IsReceipt, IsBuiltBy}
use Rattle.micro_document.specs.Outcome.{Instances, Output, Outcome}
use Rattle.micro_document.specs.Outcome.Outcome.{Wants, Refuses, Gives}
use Rattle.pdfmicro_run.specs.declared.ending.RunEnd.{RunEnd}
use Rattle.pdfmicro_run.specs.Ran.{Outside}

pub record IsFaultless (before after : Outside) : Type 0 where
  pub shelf : ¬ Rose before.shelf.faults after.shelf.faults
  pub out : ¬ Rose before.out.faults after.out.faults
  pub talk : ¬ Rose before.talk.faults after.talk.faults

-- the receipt of a table of the fonts says so: it names a worker for each instance, in cell order
pub record IsBuilt (workers : ℕ) (instances : Instances) (end : RunEnd) : Type 0 where
  pub receipt : Closed
  pub handed_on : end.closed ≡ Some receipt
  pub of_used : IsReceipt instances receipt
  pub by_workers : IsBuiltBy workers receipt

pub record IsWell (workers : ℕ) (output : Output) (before after : Outside)
    (end : RunEnd) : Type 0 where
  pub answer : end.answer ≡ Done
  pub bytes : Appends before.out.written after.out.written output.out
  pub built : IfSome output.instances (λ instances. IsBuilt workers instances end)

pub record IsRefused (fault : Answer) (before after : Outside) (end : RunEnd) : Type 0 where
  pub answer : end.answer ≡ fault
  pub out : after.out ≡ before.out

-- of a document that wants another file, nothing is said here
abbrev pub Follows : ℕ → Outcome → Outside → Outside → RunEnd → Type 0
Follows workers (Gives output) before after end = IsWell workers output before after end
Follows workers (Refuses fault) before after end = IsRefused fault before after end
Follows workers (Wants name) before after end = ⊤

-- The words are a command, and the files that they name are told: what their bytes come to by the
-- definition, which sets one paragraph after another, comes of the run.
abbrev pub Headline : List (List ℕ) → Outside → Outside → RunEnd → Type 0
Headline words before after end =
    (cmd : Cmd) (reads : List (List ℕ)) (outcome : Outcome)
    → cmd_of words ≡ Some cmd
    → IsSome before.shelf.files → AreReads (Doc words) before.shelf.files reads
    → Doc words reads outcome
    → IsFaultless before after
    → Follows cmd.workers outcome before after end ⊎ (end.answer ≡ NoMemory)
