-- The members of a list, and the first of a list by an order.
--     Among xs x             x is a member of xs
--     is_empty               whether a list has no members
--     Ascends                each member is below all later ones
--     first_by               the least member by an order, of several the first
use Rattle.std.specs.Prelude.{◌≡◌, ◌⊎◌, Bool, true, false, List, [], ◌∷◌, Option, Some, None, if◌then◌else◌}
use Rattle.std.specs.declared.cmp.Ordering.{Ordering}
use Rattle.std.specs.declared.cmp.Ordering.TheVariants.{Less}
use Rattle.std.specs.Ordering.{is_lt}

abbrev pub Among : {X : Type 0} → List X → X → Type 0
Among [] x = ⊥
Among (y ∷ ys) x = (x ≡ y) ⊎ Among ys x

abbrev pub is_empty : {X : Type 0} → List X → Bool
is_empty [] = true
is_empty (x ∷ xs) = false

abbrev pub Ascends : {X : Type 0} → (X → X → Ordering) → List X → Type 0
Ascends {X} c [] = Unit {0}
Ascends {X} c (x ∷ xs) = ((y : X) → Among xs y → c x y ≡ Less) × Ascends c xs

abbrev pub first_of_two : {X : Type 0} → (X → X → Ordering) → X → Option X → X
first_of_two c x None = x
first_of_two c x (Some y) = if is_lt (c y x) then y else x

abbrev pub first_by : {X : Type 0} → (X → X → Ordering) → List X → Option X
first_by c [] = None
first_by c (x ∷ xs) = Some (first_of_two c x (first_by c xs))
