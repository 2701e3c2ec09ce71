-- What a failed write may leave, in words of this project's own.
use Rattle.std.specs.Prelude.{◌≡◌, ℕ, List, ◌++◌, Option}
use Rattle.std.specs.Io.KnownBytes.{Appends}

-- known bytes grew by a first part of these
abbrev pub AppendsPrefix : Option (List ℕ) → Option (List ℕ) → List ℕ → Type 0
AppendsPrefix old new bytes =
    (front : List ℕ) × (back : List ℕ) × (front ++ back ≡ bytes) × Appends old new front
