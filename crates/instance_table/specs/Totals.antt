-- Sums over a list.
--     total f xs     f of each, added up
--     one_if b       1 where b is true, else 0
--     times n ns     how often a number stands in a list
use Rattle.std.specs.Prelude.{ℕ, ◌+◌, Bool, true, false, nat_eq, List, [], ◌∷◌}

abbrev pub total : {A : Type 0} → (A → ℕ) → List A → ℕ
total f [] = 0
total f (x ∷ xs) = f x + total f xs

abbrev pub one_if : Bool → ℕ
one_if true = 1
one_if false = 0

abbrev pub times : ℕ → List ℕ → ℕ
times n ns = total (λ m. one_if (nat_eq m n)) ns
