-- What is found with one more file in front, or of a document that has more outcomes.
--     stays_same, stays_trans            the shelf
--     finds_within                       of a document that has more outcomes
--     finds_behind                       with a file that was read in front
--     finds_missed, finds_no_memory      where no file was read
--     finds_concluded                    the outcome of a document that wants no file
use Rattle.std.proofs.Common.{◌≡◌, ℕ, ◌+◌, ◌^◌, ◌<◌, List, [], ◌∷◌, length, arith, refl, ◌∙◌, ap, subst}
use Rattle.std.proofs.Common.{Result, Ok, Err, ◌⊎◌, inl, inr}
use Rattle.outside_io.specs.Counts.{RisesBy}
use Rattle.outside_io.specs.States.{ShelfState}
use Rattle.micro_texts.specs.declared.answer.Answer.TheVariants.{Absent, ReadFault, FileTooLong, NoMemory}
use Rattle.micro_document.specs.declared.made.Made.{Made}
use Rattle.micro_document.specs.declared.stop.Stop.{Stop}
use Rattle.micro_document.specs.Stopping.{stop_of, stop_at}
use Rattle.micro_document.specs.Outcome.{Outcome, Document, behind}
use Rattle.micro_document.specs.Outcome.Outcome.{Wants, Refuses, Gives}
use Rattle.micro_document.specs.Finding.{Files, WasRead, IsMissing, IsTooBig, AreReads}
use Rattle.micro_document.specs.Finding.{ShelfStays, Misses, Concludes, Comes, IsDecided, IsUndecided, Finds}
use Rattle.micro_document.specs.Finding.Misses.{is_absent, is_too_long, has_failed, is_unread}

pub stays_same : (shelf : ShelfState) → ShelfStays shelf shelf
stays_same shelf = record { files = refl; absences = omega arith; excesses = omega arith; faults = omega arith }

pub stays_trans : (a b c : ShelfState) → ShelfStays a b → ShelfStays b c → ShelfStays a c
stays_trans a b c p q = record {
  files = q.files ∙ p.files;
  absences = omega arith;
  excesses = omega arith;
  faults = omega arith;
}

reads_within : (D E : Document) (files : Files) → ((reads : List (List ℕ)) (outcome : Outcome) → D reads outcome → E reads outcome) → (reads : List (List ℕ)) → AreReads D files reads → AreReads E files reads
reads_within D E files more [] each = tt
reads_within D E files more (bytes ∷ reads) each = (
  record { name = each.0.name; wanted = more [] (Wants each.0.name) each.0.wanted; read = each.0.read },
  reads_within (behind D bytes) (behind E bytes) files (λ r o. more (bytes ∷ r) o) reads each.1,
)

ends_within : (first : ℕ) (D E : Document) (reads : List (List ℕ)) (shelf later : ShelfState) (found : Result Made Stop) → ((outcome : Outcome) → D reads outcome → E reads outcome)
    → IsDecided first D reads shelf later found ⊎ IsUndecided reads shelf later found → IsDecided first E reads shelf later found ⊎ IsUndecided reads shelf later found
ends_within first D E reads shelf later found more (inl d) = inl (record { outcome = d.outcome; is = more d.outcome d.is; comes = d.comes; calls = d.calls })
ends_within first D E reads shelf later found more (inr u) = inr u

pub finds_within : (first : ℕ) (D E : Document) (shelf later : ShelfState) (found : Result Made Stop) → ((reads : List (List ℕ)) (outcome : Outcome) → D reads outcome → E reads outcome)
    → Finds first D shelf later found → Finds first E shelf later found
finds_within first D E shelf later found more f = record {
  reads = f.reads;
  each = reads_within D E shelf.files more f.reads f.each;
  stays = f.stays;
  ends = ends_within first D E f.reads shelf later found (more f.reads) f.ends;
}

misses_before : (name : List ℕ) (file next : ℕ) (shelf middle later : ShelfState) (stop : Stop) → ShelfStays shelf middle → next ≡ file → Misses name next middle later stop → Misses name file shelf later stop
misses_before name file next shelf middle later stop stays e (is_absent is rose missing) =
    is_absent (is ∙ ap (λ n. stop_at name (Absent n)) e) (omega arith) (let P : Files → Type 0 = λ files. IsMissing files name in subst P stays.files missing)
misses_before name file next shelf middle later stop stays e (is_too_long is rose big) =
    is_too_long (is ∙ ap (λ n. stop_at name (FileTooLong n)) e) (omega arith) (let P : Files → Type 0 = λ files. IsTooBig files name in subst P stays.files big)
misses_before name file next shelf middle later stop stays e (has_failed is rose) =
    has_failed (is ∙ ap (λ n. stop_at name (ReadFault n)) e) (omega arith)
misses_before name file next shelf middle later stop stays e (is_unread is) = is_unread is

pub comes_before : (outcome : Outcome) (file next : ℕ) (shelf middle later : ShelfState) (found : Result Made Stop) → ShelfStays shelf middle → next ≡ file → Comes outcome next middle later found → Comes outcome file shelf later found
comes_before (Wants name) file next shelf middle later (Ok made) stays e comes = comes
comes_before (Wants name) file next shelf middle later (Err stop) stays e comes = misses_before name file next shelf middle later stop stays e comes
comes_before (Refuses fault) file next shelf middle later found stays e comes = comes
comes_before (Gives output) file next shelf middle later found stays e comes = comes

ends_before : (first : ℕ) (D : Document) (bytes : List ℕ) (reads : List (List ℕ)) (shelf middle later : ShelfState) (found : Result Made Stop) → ShelfStays shelf middle → RisesBy 1 shelf.calls middle.calls
    → IsDecided (first + 1) (behind D bytes) reads middle later found ⊎ IsUndecided reads middle later found
    → IsDecided first D (bytes ∷ reads) shelf later found ⊎ IsUndecided (bytes ∷ reads) shelf later found
ends_before first D bytes reads shelf middle later found stays called (inl d) = inl (record {
  outcome = d.outcome;
  is = d.is;
  comes = comes_before d.outcome (first + length (bytes ∷ reads)) (first + 1 + length reads) shelf middle later found stays (omega arith) d.comes;
  calls = omega (arith, called, d.calls);
})
ends_before first D bytes reads shelf middle later found stays called (inr u) = inr (record {
  answer = u.answer;
  calls = omega (arith, called, u.calls);
})

pub finds_behind : (first : ℕ) (D : Document) (name bytes : List ℕ) (shelf middle later : ShelfState) (found : Result Made Stop) → D [] (Wants name) → WasRead shelf.files name bytes → ShelfStays shelf middle → RisesBy 1 shelf.calls middle.calls
    → Finds (first + 1) (behind D bytes) middle later found → Finds first D shelf later found
finds_behind first D name bytes shelf middle later found wanted read stays called f =
    let P : Files → Type 0 = λ files. AreReads (behind D bytes) files f.reads in
    record {
      reads = bytes ∷ f.reads;
      each = (record { name = name; wanted = wanted; read = read }, subst P stays.files f.each);
      stays = stays_trans shelf middle later stays f.stays;
      ends = ends_before first D bytes f.reads shelf middle later found stays called f.ends;
    }

pub finds_missed : (first : ℕ) (D : Document) (name : List ℕ) (shelf later : ShelfState) (stop : Stop) → D [] (Wants name) → ShelfStays shelf later → RisesBy 1 shelf.calls later.calls → Misses name first shelf later stop
    → Finds first D shelf later (Err stop)
finds_missed first D name shelf later stop wanted stays called misses = record {
  reads = [];
  each = tt;
  stays = stays;
  ends = inl (record {
    outcome = Wants name;
    is = wanted;
    comes = misses_before name (first + length {A = List ℕ} []) first shelf shelf later stop (stays_same shelf) (omega arith) misses;
    calls = called;
  });
}

pub finds_no_memory : (first : ℕ) (D : Document) (shelf : ShelfState) → shelf.calls < 2 ^ 64 → Finds first D shelf shelf (Err (stop_of NoMemory))
finds_no_memory first D shelf fits = record {
  reads = [];
  each = tt;
  stays = stays_same shelf;
  ends = inr (record { answer = refl; calls = omega arith });
}

concluded : (first : ℕ) (D : Document) (outcome : Outcome) (shelf : ShelfState) (found : Result Made Stop) → shelf.calls < 2 ^ 64 → D [] outcome → Concludes outcome found → IsDecided first D [] shelf shelf found
concluded first D (Wants name) shelf (Ok made) fits is c = absurd c
concluded first D (Wants name) shelf (Err stop) fits is c = absurd c
concluded first D (Refuses fault) shelf found fits is c = record { outcome = Refuses fault; is = is; comes = c; calls = omega arith }
concluded first D (Gives output) shelf found fits is c = record { outcome = Gives output; is = is; comes = c; calls = omega arith }

pub finds_concluded : (first : ℕ) (D : Document) (outcome : Outcome) (shelf : ShelfState) (found : Result Made Stop) → shelf.calls < 2 ^ 64 → D [] outcome → Concludes outcome found → Finds first D shelf shelf found
finds_concluded first D outcome shelf found fits is c = record {
  reads = [];
  each = tt;
  stays = stays_same shelf;
  ends = inl (concluded first D outcome shelf found fits is c);
}
