-- What a shelf may answer to a read, and what each refusal means, in words of this project's own.
use Rattle.std.specs.Prelude.{◌≡◌, ℕ, ◌≤◌, ◌<◌, ◌≢◌, List, length, Contains, AllPairs, Result, Ok, Err, ⊤}
use Rattle.outside_io.specs.declared.faults.ShelfFault.{ShelfFault}
use Rattle.outside_io.specs.declared.faults.ShelfFault.TheVariants.{Absent, TooLong, Failed, NoMemory}

-- no two files have one name
abbrev pub NamesDiffer : List (List ℕ × List ℕ) → Type 0
NamesDiffer files = AllPairs (λ file other. file.0 ≢ other.0) files

-- one of the files has this name and these bytes
abbrev pub HasFile : List (List ℕ × List ℕ) → List ℕ → List ℕ → Type 0
HasFile files name bytes = Contains files (name, bytes)

-- a fact for one refusal
abbrev pub OnAbsent : {Bytes : Type 0} → Result Bytes ShelfFault → Type 0 → Type 0
OnAbsent (Err Absent) P = P
OnAbsent _ P = ⊤

abbrev pub IfTooLong : {Bytes : Type 0} → Result Bytes ShelfFault → (ℕ → Type 0) → Type 0
IfTooLong (Err (TooLong count)) P = P count
IfTooLong _ P = ⊤

abbrev pub OnFailed : {Bytes : Type 0} → Result Bytes ShelfFault → Type 0 → Type 0
OnFailed (Err Failed) P = P
OnFailed _ P = ⊤

-- The answers to a read where these are the files: the bytes of that name, an absence only where no
-- file has it, an excess only where its file has more bytes than the limit.
abbrev pub Answers : List (List ℕ × List ℕ) → List ℕ → ℕ → Result (List ℕ) ShelfFault → Type 0
Answers files name limit (Ok bytes) = HasFile files name bytes
Answers files name limit (Err Absent) = (bytes : List ℕ) → ¬ HasFile files name bytes
Answers files name limit (Err (TooLong count)) =
    (bytes : List ℕ) × HasFile files name bytes × (limit < length bytes)
Answers files name limit (Err Failed) = ⊤
Answers files name limit (Err NoMemory) = ⊤

-- the bytes where there are at most so many, their number where there are more
abbrev pub CopiesWithin : List ℕ → ℕ → Result (List ℕ) ShelfFault → Type 0
CopiesWithin bytes limit (Ok copy) = (copy ≡ bytes) × (length bytes ≤ limit)
CopiesWithin bytes limit (Err (TooLong count)) = (count ≡ length bytes) × (limit < count)
CopiesWithin bytes limit (Err NoMemory) = length bytes ≤ limit
CopiesWithin bytes limit (Err Absent) = ⊥
CopiesWithin bytes limit (Err Failed) = ⊥
