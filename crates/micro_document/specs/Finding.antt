-- What a run finds on the shelf that it reads a document from.
--     WasRead, IsMissing, IsTooBig       a file that was read, that isn't there, that is too long
--     AreReads D files reads             each file was wanted in its turn, and was read
--     Misses name file shelf later       why a file wasn't read
--     Concludes, Comes                   what is found where the outcome is known
--     Finds first D shelf later found    the whole of it, where `first` files were read before
-- Where the shelf tells no files, bytes of some kind were read, and the same is said of them.
use Rattle.std.specs.Prelude.{◌≡◌, ℕ, ◌+◌, ◌<◌, ◌≤◌, List, [], ◌∷◌, length, ⊤, ◌⊎◌}
use Rattle.std.specs.Prelude.{Option, IfSome, Result, Ok, Err}
use Rattle.outside_io.specs.Counts.{Rose, RisesBy}
use Rattle.outside_io.specs.Reading.{HasFile}
use Rattle.outside_io.specs.States.{ShelfState, Files as ToldFiles}
use Rattle.micro_texts.specs.declared.answer.Answer.TheVariants.{Absent, ReadFault, FileTooLong}
use Rattle.micro_texts.specs.declared.answer.Answer.TheVariants.{NoMemory}
use Rattle.micro_document.specs.declared.files.TheConstants.{MOST_FILE_BYTES}
use Rattle.micro_document.specs.declared.made.Made.{Made}
use Rattle.micro_document.specs.declared.stop.Stop.{Stop}
use Rattle.micro_document.specs.Making.{IsMade}
use Rattle.micro_document.specs.Outcome.{Outcome, Document, behind}
use Rattle.micro_document.specs.Outcome.Outcome.{Wants, Refuses, Gives}
use Rattle.micro_document.specs.Stopping.{stop_of, stop_at}

abbrev pub Files : Type 0
Files = Option ToldFiles

-- at most 16,777,216 bytes; where the files are told, those of that name
pub record WasRead (files : Files) (name bytes : List ℕ) : Type 0 where
  pub within : length bytes ≤ MOST_FILE_BYTES
  pub told : IfSome files (λ told. HasFile told name bytes)

-- where the files are told, none has the name
abbrev pub IsMissing : Files → List ℕ → Type 0
IsMissing files name = IfSome files (λ told. (bytes : List ℕ) → ¬ HasFile told name bytes)

-- where the files are told, the file of that name has more bytes
abbrev pub IsTooBig : Files → List ℕ → Type 0
IsTooBig files name = IfSome files (λ told.
    (bytes : List ℕ) × HasFile told name bytes × (MOST_FILE_BYTES < length bytes))

-- the document wants a file first, and it was read as these bytes
pub record IsFirstRead (D : Document) (files : Files) (bytes : List ℕ) : Type 0 where
  pub name : List ℕ
  pub wanted : D [] (Wants name)
  pub read : WasRead files name bytes

abbrev pub AreReads : Document → Files → List (List ℕ) → Type 0
AreReads D files [] = ⊤
AreReads D files (bytes ∷ reads) =
    IsFirstRead D files bytes × AreReads (behind D bytes) files reads

-- the files stay, and no count falls
pub record ShelfStays (shelf later : ShelfState) : Type 0 where
  pub files : later.files ≡ shelf.files
  pub absences : shelf.absences ≤ later.absences
  pub excesses : shelf.excesses ≤ later.excesses
  pub faults : shelf.faults ≤ later.faults

-- A read failed, and the name is kept for the message: each cause is counted and, where the files
-- are told, true of them. Memory may run out in place of any.
pub data Misses (name : List ℕ) (file : ℕ) (shelf later : ShelfState)
    (stop : Stop) : Type 0 where
  is_absent : stop ≡ stop_at name (Absent file) → Rose shelf.absences later.absences
      → IsMissing shelf.files name → Misses name file shelf later stop
  is_too_long : stop ≡ stop_at name (FileTooLong file) → Rose shelf.excesses later.excesses
      → IsTooBig shelf.files name → Misses name file shelf later stop
  has_failed : stop ≡ stop_at name (ReadFault file) → Rose shelf.faults later.faults
      → Misses name file shelf later stop
  is_unread : stop ≡ stop_of NoMemory → Misses name file shelf later stop

-- what is made of an outcome that wants no file
abbrev pub Concludes : Outcome → Result Made Stop → Type 0
Concludes (Gives output) (Ok made) = IsMade output made
Concludes (Refuses fault) (Err stop) = stop ≡ stop_of fault
Concludes _ _ = ⊥

-- what is found where the outcome is known; a file that is wanted has the number
abbrev pub Comes : Outcome → ℕ → ShelfState → ShelfState → Result Made Stop → Type 0
Comes (Wants name) file shelf later (Err stop) = Misses name file shelf later stop
Comes outcome file shelf later found = Concludes outcome found

-- how many calls a failed read adds
abbrev pub call_of : Outcome → ℕ
call_of (Wants name) = 1
call_of _ = 0

-- the outcome of what was read decides
pub record IsDecided (first : ℕ) (D : Document) (reads : List (List ℕ))
    (shelf later : ShelfState) (found : Result Made Stop) : Type 0 where
  pub outcome : Outcome
  pub is : D reads outcome
  pub comes : Comes outcome (first + length reads) shelf later found
  pub calls : RisesBy (length reads + call_of outcome) shelf.calls later.calls

-- memory ran out behind the reads
pub record IsUndecided (reads : List (List ℕ)) (shelf later : ShelfState)
    (found : Result Made Stop) : Type 0 where
  pub answer : found ≡ Err (stop_of NoMemory)
  pub calls : RisesBy (length reads) shelf.calls later.calls

pub record Finds (first : ℕ) (D : Document) (shelf later : ShelfState)
    (found : Result Made Stop) : Type 0 where
  pub reads : List (List ℕ)
  pub each : AreReads D shelf.files reads
  pub stays : ShelfStays shelf later
  pub ends : IsDecided first D reads shelf later found ⊎ IsUndecided reads shelf later found

-- What is found of a document is what a run finds that begins later, with the files read since.
abbrev pub GoesOn : ℕ → Document → ShelfState → ℕ → Document → ShelfState → Type 0
GoesOn first D shelf next E middle =
    (later : ShelfState) (found : Result Made Stop)
    → Finds next E middle later found → Finds first D shelf later found
