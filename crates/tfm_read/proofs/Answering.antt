-- What a loop answers where one of its words fails.
use Rattle.std.proofs.Common.{◌≡◌, ℕ, ◌<◌, Option, Some, None, Err}
use Rattle.tfm_read.specs.declared.fault.TfmFault.{TfmFault}
use Rattle.tfm_read.specs.declared.fault.TfmFault.TheVariants.{NoMemory, At}
use Rattle.tfm_read.specs.Checks.{Fault, Answers}
use Rattle.tfm_read.specs.Entries.{first_of}
use Rattle.tfm_read.proofs.Entries.{first_of_found}

pub answers_found : {X Y : Type 0} (P : X → Type 0) (Q : Y → Type 0) (f : ℕ → Option Fault) (i n : ℕ) (e : TfmFault) → i < n → first_of f i ≡ None
    → Answers {X = X} (Err e) (f i) P → Answers {X = Y} (Err e) (first_of f n) Q
answers_found P Q f i n NoMemory lt before here = tt
answers_found P Q f i n (At kind word) lt before here = first_of_found f i n (record { kind = kind; word = word }) lt before here

-- the fault of a part is the fault of the whole
pub answers_whole : {X Y : Type 0} (P : X → Type 0) (Q : Y → Type 0) (e : TfmFault) (part whole : Option Fault) → ((fault : Fault) → part ≡ Some fault → whole ≡ Some fault)
    → Answers {X = X} (Err e) part P → Answers {X = Y} (Err e) whole Q
answers_whole P Q NoMemory part whole first here = tt
answers_whole P Q (At kind word) part whole first here = first (record { kind = kind; word = word }) here
