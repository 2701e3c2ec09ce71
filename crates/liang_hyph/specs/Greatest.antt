-- The greatest of some numbers.
use Rattle.std.specs.Prelude.{ℕ, zero, suc, max, List, [], ◌∷◌}

-- the greatest of a list, 0 where it is empty
abbrev pub greatest : List ℕ → ℕ
greatest [] = 0
greatest (x ∷ xs) = max x (greatest xs)

-- the greatest f k for k below n, 0 where n is 0
abbrev pub greatest_below : (ℕ → ℕ) → ℕ → ℕ
greatest_below f zero = 0
greatest_below f (suc n) = max (greatest_below f n) (f n)
