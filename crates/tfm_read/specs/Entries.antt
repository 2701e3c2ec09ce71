-- What stands at the first n places, and the first fault among them: words of this project's own.
use Rattle.std.specs.Prelude.{ℕ, zero, suc, List, [], ◌∷◌, ◌++◌, Option, None}
use Rattle.std.specs.Option.{option_or}

-- f 0, f 1 and so on: n of them
unfoldable pub entries : {X : Type 0} → (ℕ → X) → ℕ → List X
entries f zero = []
entries f (suc n) = entries f n ++ f n ∷ []

-- the first of f 0, f 1 and so on, n of them, that is there
unfoldable pub first_of : {X : Type 0} → (ℕ → Option X) → ℕ → Option X
first_of f zero = None
first_of f (suc n) = option_or (first_of f n) (f n)

-- the first of a list that is there
abbrev pub first_in : {X : Type 0} → List (Option X) → Option X
first_in [] = None
first_in (x ∷ xs) = option_or x (first_in xs)
