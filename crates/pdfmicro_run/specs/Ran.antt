-- What a run does: what it finds on the shelf, and what it tells of it.
--     Outside                      the shelf, the output and talk at one time
--     Writes, WritesPart           all bytes in pieces, or a first part of them
--     Talks, TalksPart             all texts, each in one write, or a first part of them
--     IsMessage, SaysAnswer        the one write of a message, whose failure changes nothing
--     IsWriting                    the answers before which something may have been written
--     Tells found before after     what is written of what was found, and how the run ends
--     Ran D before after end       both
--     Exact D before after end     where the files are told, they determine the end
--     Complete                     an output is written where nothing outside fails
--     Stays                        the files stay, and no count falls
use Rattle.std.specs.Prelude.{◌≡◌, refl, ℕ, ◌+◌, ◌-◌, ◌/◌, ◌<◌, ◌≤◌, List, [], length, ⊤, ◌⊎◌}
use Rattle.std.specs.Prelude.{Option, Some, None, IsSome, unwrap_or, Result, Ok, Err}
use Rattle.std.specs.List.{concat}
use Rattle.std.specs.Io.KnownBytes.{Appends}
use Rattle.outside_io.specs.Counts.{Rose, RisesBy}
use Rattle.outside_io.specs.States.{ShelfState, SinkState}
use Rattle.outside_io.specs.Writing.{AppendsPrefix}
use Rattle.micro_texts.specs.Messages.{fixed_of, message_of}
use Rattle.micro_texts.specs.declared.answer.Answer.{Answer}
use Rattle.micro_texts.specs.declared.answer.Answer.TheVariants.{Done, ReadFault, OutFault}
use Rattle.micro_texts.specs.declared.answer.Answer.TheVariants.{TalkFault, NoMemory}
use Rattle.micro_document.specs.declared.files.TheConstants.{MOST_FILE_BYTES}
use Rattle.micro_document.specs.declared.made.Made.{Made}
use Rattle.micro_document.specs.declared.stop.Stop.{Stop}
use Rattle.micro_document.specs.Finding.{Files, IsMissing, IsTooBig, AreReads, Comes, Finds}
use Rattle.micro_document.specs.Outcome.{Output, Outcome, Document}
use Rattle.micro_document.specs.Outcome.Outcome.{Wants, Gives}
use Rattle.pdfmicro_run.specs.declared.ending.RunEnd.{RunEnd}
use Rattle.pdfmicro_run.specs.declared.pieces.TheConstants.{PIECE}

pub record Outside : Type 0 where
  pub shelf : ShelfState
  pub out : SinkState
  pub talk : SinkState

abbrev pub outside : ShelfState → SinkState → SinkState → Outside
outside shelf out talk = record { shelf = shelf; out = out; talk = talk }

-- the two limits in numbers
pub greatest_file : MOST_FILE_BYTES ≡ 16777216
greatest_file = refl

pub whole_piece : PIECE ≡ 16384
whole_piece = refl

-- bytes are written in pieces of 16,384, of which the last may be shorter
abbrev pub pieces : ℕ → ℕ
pieces bytes = (bytes + (PIECE - 1)) / PIECE

-- all of the bytes were written
abbrev pub Writes : List ℕ → SinkState → SinkState → Type 0
Writes bytes old new =
    Appends old.written new.written bytes × RisesBy (pieces (length bytes)) old.calls new.calls

-- a first part of the bytes was written
abbrev pub WritesPart : List ℕ → SinkState → SinkState → Type 0
WritesPart bytes old new =
    AppendsPrefix old.written new.written bytes
    × ((calls : ℕ) × (calls ≤ pieces (length bytes)) × RisesBy calls old.calls new.calls)

-- all of the texts were written, each in one call
abbrev pub Talks : List (List ℕ) → SinkState → SinkState → Type 0
Talks texts old new =
    Appends old.written new.written (concat texts) × RisesBy (length texts) old.calls new.calls

-- a first part of the texts was written
abbrev pub TalksPart : List (List ℕ) → SinkState → SinkState → Type 0
TalksPart texts old new =
    AppendsPrefix old.written new.written (concat texts)
    × ((calls : ℕ) × (calls ≤ length texts) × RisesBy calls old.calls new.calls)

-- a line was written, or a first part of it where a fault was counted
abbrev pub IsLineTold : List ℕ → SinkState → SinkState → Type 0
IsLineTold line old new =
    Appends old.written new.written line
    ⊎ (Rose old.faults new.faults × AppendsPrefix old.written new.written line)

-- the message of an answer about the file of a name, in one call; nothing where it has none
abbrev pub IsMessage : Option (List ℕ) → SinkState → SinkState → Type 0
IsMessage None old new = new ≡ old
IsMessage (Some line) old new = IsLineTold line old new × RisesBy 1 old.calls new.calls

-- An answer about the file of a name is told by its message; or memory ran out while that was made,
-- unless the line is fixed, and is told instead.
abbrev pub SaysAnswer : Answer → List ℕ → SinkState → SinkState → Answer → Type 0
SaysAnswer answer name old new told =
    ((told ≡ answer) × IsMessage (message_of answer name) old new)
    ⊎ ((told ≡ NoMemory) × (fixed_of answer ≡ None) × IsMessage (message_of NoMemory []) old new)

-- only these answers come after a write to the output
abbrev pub IsWriting : Answer → Type 0
IsWriting answer = (answer ≡ Done) ⊎ ((answer ≡ OutFault) ⊎ (answer ≡ TalkFault))

-- the command was carried out
pub record IsWritten (made : Made) (before after : Outside) (end : RunEnd) : Type 0 where
  pub answer : end.answer ≡ Done
  pub closed : end.closed ≡ made.closed
  pub out : Writes made.out before.out after.out
  pub talk : Talks made.talk before.talk after.talk

-- the output failed, which needs something to write, and the message tells it
pub record IsBrokenOff (made : Made) (before after : Outside) (end : RunEnd) : Type 0 where
  pub answer : end.answer ≡ OutFault
  pub closed : end.closed ≡ None
  pub some : 0 < length made.out
  pub cause : Rose before.out.faults after.out.faults
  pub out : WritesPart made.out before.out after.out
  pub talk : IsMessage (message_of OutFault []) before.talk after.talk

-- talk failed, which needs a text, behind the whole output
pub record IsHushed (made : Made) (before after : Outside) (end : RunEnd) : Type 0 where
  pub answer : end.answer ≡ TalkFault
  pub closed : end.closed ≡ None
  pub some : 0 < length made.talk
  pub cause : Rose before.talk.faults after.talk.faults
  pub out : Writes made.out before.out after.out
  pub talk : TalksPart made.talk before.talk after.talk

abbrev pub TellsMade : Made → Outside → Outside → RunEnd → Type 0
TellsMade made before after end =
    IsWritten made before after end
    ⊎ (IsBrokenOff made before after end ⊎ IsHushed made before after end)

-- the stop's answer is told, and nothing is written to the output
pub record IsToldStop (stop : Stop) (before after : Outside) (end : RunEnd) : Type 0 where
  pub closed : end.closed ≡ None
  pub out : after.out ≡ before.out
  pub says : SaysAnswer stop.answer (unwrap_or stop.name []) before.talk after.talk end.answer

abbrev pub Tells : Result Made Stop → Outside → Outside → RunEnd → Type 0
Tells (Ok made) before after end = TellsMade made before after end
Tells (Err stop) before after end = IsToldStop stop before after end

pub record Ran (D : Document) (before after : Outside) (end : RunEnd) : Type 0 where
  pub found : Result Made Stop
  pub finds : Finds 0 D before.shelf after.shelf found
  pub tells : Tells found before after end

-- nothing more can be read: if a file is wanted, it is not there or too long
abbrev pub IsLast : Files → Outcome → Type 0
IsLast files (Wants name) = IsMissing files name ⊎ IsTooBig files name
IsLast files _ = ⊤

-- what the answer says of an outcome, whatever else was found
pub record Says (outcome : Outcome) (file : ℕ) (before after : Outside)
    (end : RunEnd) : Type 0 where
  pub found : Result Made Stop
  pub comes : Comes outcome file before.shelf after.shelf found
  pub tells : Tells found before after end

-- one of so many files and the next could not be read
pub record IsReadFault (files : ℕ) (shelf later : ShelfState) (answer : Answer) : Type 0 where
  pub file : ℕ
  pub within : file ≤ files
  pub is : answer ≡ ReadFault file
  pub cause : Rose shelf.faults later.faults

-- want of memory, and a counted fault of the shelf
abbrev pub IsInterrupted : ℕ → Outside → Outside → Answer → Type 0
IsInterrupted files before after answer =
    (answer ≡ NoMemory) ⊎ IsReadFault files before.shelf after.shelf answer

-- What the told files make of the document is what the run ends with, unless it was interrupted.
abbrev pub Exact : Document → Outside → Outside → RunEnd → Type 0
Exact D before after end =
    (reads : List (List ℕ)) (outcome : Outcome)
    → IsSome before.shelf.files → AreReads D before.shelf.files reads
    → D reads outcome → IsLast before.shelf.files outcome
    → IsInterrupted (length reads) before after end.answer
    ⊎ Says outcome (length reads) before after end

abbrev pub IsDone : Answer → Type 0
IsDone answer = (answer ≡ Done) ⊎ (answer ≡ NoMemory)

-- An output is written, or memory ran out, where no read and no write fails.
abbrev pub Complete : Document → Outside → Outside → Answer → Type 0
Complete D before after answer =
    (reads : List (List ℕ)) (output : Output)
    → IsSome before.shelf.files → AreReads D before.shelf.files reads
    → D reads (Gives output)
    → ¬ Rose before.shelf.faults after.shelf.faults
    → ¬ Rose before.out.faults after.out.faults
    → ¬ Rose before.talk.faults after.talk.faults
    → IsDone answer

pub record Stays (before after : Outside) : Type 0 where
  pub files : after.shelf.files ≡ before.shelf.files
  pub calls : before.shelf.calls ≤ after.shelf.calls
  pub absences : before.shelf.absences ≤ after.shelf.absences
  pub excesses : before.shelf.excesses ≤ after.shelf.excesses
  pub faults : before.shelf.faults ≤ after.shelf.faults
  pub out_calls : before.out.calls ≤ after.out.calls
  pub out_faults : before.out.faults ≤ after.out.faults
  pub talk_calls : before.talk.calls ≤ after.talk.calls
  pub talk_faults : before.talk.faults ≤ after.talk.faults
