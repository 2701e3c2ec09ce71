-- How many cells pages use.
--     first_uses-distinct    no two first uses are equal
--     first_uses-fewer       there are at most as many as cells
--     first_uses-within      there are at most as many as any list has that has all of the cells
use Rattle.std.proofs.Common.{◌≡◌, suc, ◌≤◌, refl, ap, sym, ◌∙◌, arith, Bool, true, false, cond, not, ◌||◌, List, [], ◌∷◌, length}
use Rattle.std.specs.Cmp.{IsEquivalence}
use Rattle.std.specs.List.{All, AllByRecursion, IsDistinct, filter}
use Rattle.std.proofs.lemmas.List.Elements.{All-head, All-tail}
use Rattle.std.proofs.lemmas.Map.Made.{length-le_from_is_member}
use Rattle.instance_core.specs.declared.cell.Cell.{Cell}
use Rattle.instance_core.specs.Cells.{same_cell, has_cell}
use Rattle.instance_core.proofs.CellNumbers.{same_cell-is, same_cell-self}
use Rattle.renumber.specs.Uses.{first_uses}
use Rattle.renumber.proofs.UsedCells.{has_cell-first_uses}

same_cell-symm : (a b : Cell) → same_cell a b ≡ same_cell b a
same_cell-symm a b = by_tests (same_cell a b) (same_cell b a) refl refl
  where
    by_tests : (p q : Bool) → same_cell a b ≡ p → same_cell b a ≡ q → p ≡ q
    by_tests true true ab ba = refl
    by_tests false false ab ba = refl
    by_tests true false ab ba =
        let never : true ≡ false = sym (same_cell-self a) ∙ ap (λ c. same_cell c a) (same_cell-is a b ab) ∙ ba in absurd (cc)
    by_tests false true ab ba =
        let never : true ≡ false = sym (same_cell-self b) ∙ ap (λ c. same_cell c b) (same_cell-is b a ba) ∙ ab in absurd (cc)

pub same_cell-laws : IsEquivalence same_cell
same_cell-laws = record {
  refl = same_cell-self;
  symm = same_cell-symm;
  congr = λ a b c same. ap (λ d. same_cell d c) (same_cell-is a b same);
}

filter_apart : (c : Cell) (cells : List Cell) → AllByRecursion (λ d. same_cell c d ≡ false) (filter (λ d. not (same_cell d c)) cells)
filter_apart c [] = tt
filter_apart c (x ∷ xs) = by_test (same_cell x c) refl (filter_apart c xs)
  where
    by_test : (s : Bool) → same_cell x c ≡ s → AllByRecursion (λ d. same_cell c d ≡ false) (filter (λ d. not (same_cell d c)) xs)
        → AllByRecursion (λ d. same_cell c d ≡ false) (cond (not s) (x ∷ filter (λ d. not (same_cell d c)) xs) (filter (λ d. not (same_cell d c)) xs))
    by_test true same rest = rest
    by_test false apart rest = (same_cell-symm c x ∙ apart, rest)

filter-all : (P : Cell → Type 0) (p : Cell → Bool) (cells : List Cell) → AllByRecursion P cells → AllByRecursion P (filter p cells)
filter-all P p [] all = tt
filter-all P p (x ∷ xs) all = by_test (p x) (filter-all P p xs all.1)
  where
    by_test : (b : Bool) → AllByRecursion P (filter p xs) → AllByRecursion P (cond b (x ∷ filter p xs) (filter p xs))
    by_test true rest = (all.0, rest)
    by_test false rest = rest

filter-distinct : (p : Cell → Bool) (cells : List Cell) → IsDistinct same_cell cells → IsDistinct same_cell (filter p cells)
unfolding IsDistinct
filter-distinct p [] distinct = tt
filter-distinct p (x ∷ xs) distinct = by_test (p x) (filter-distinct p xs distinct.1)
  where
    by_test : (b : Bool) → IsDistinct same_cell (filter p xs) → IsDistinct same_cell (cond b (x ∷ filter p xs) (filter p xs))
    by_test true rest = (filter-all (λ d. same_cell x d ≡ false) p xs distinct.0, rest)
    by_test false rest = rest

pub first_uses-distinct : (cells : List Cell) → IsDistinct same_cell (first_uses cells)
unfolding first_uses IsDistinct
first_uses-distinct [] = tt
first_uses-distinct (c ∷ cs) =
    (filter_apart c (first_uses cs), filter-distinct (λ d. not (same_cell d c)) (first_uses cs) (first_uses-distinct cs))

filter-fewer : {X : Type 0} (p : X → Bool) (xs : List X) → length (filter p xs) ≤ length xs
filter-fewer p [] = omega arith
filter-fewer p (x ∷ xs) = by_test (p x) (filter-fewer p xs)
  where
    by_test : (b : Bool) → length (filter p xs) ≤ length xs → length (cond b (x ∷ filter p xs) (filter p xs)) ≤ suc (length xs)
    by_test true fewer = omega (arith, fewer)
    by_test false fewer = omega (arith, fewer)

pub first_uses-fewer : (cells : List Cell) → length (first_uses cells) ≤ length cells
unfolding first_uses
first_uses-fewer [] = omega arith
first_uses-fewer (c ∷ cs) =
    omega (arith, filter-fewer (λ d. not (same_cell d c)) (first_uses cs), first_uses-fewer cs)

-- a cell that a list has is one of which holds what holds of all
has_cell-all : (all cells : List Cell) (c : Cell) → All (λ d. has_cell all d ≡ true) cells → has_cell cells c ≡ true → has_cell all c ≡ true
has_cell-all all [] c each has = absurd (cc)
has_cell-all all (x ∷ xs) c each has =
    by_test (same_cell c x) refl has (λ found. has_cell-all all xs c (All-tail (λ d. has_cell all d ≡ true) x xs each) found)
  where
    by_test : (s : Bool) → same_cell c x ≡ s → (s || has_cell xs c) ≡ true → (has_cell xs c ≡ true → has_cell all c ≡ true) → has_cell all c ≡ true
    by_test true same found later = ap (has_cell all) (same_cell-is c x same) ∙ All-head (λ d. has_cell all d ≡ true) x xs each
    by_test false apart found later = later found

pub first_uses-within : (all cells : List Cell) → All (λ c. has_cell all c ≡ true) cells → length (first_uses cells) ≤ length all
first_uses-within all cells each =
    length-le_from_is_member same_cell-laws (first_uses cells) all (first_uses-distinct cells)
    (λ c has. has_cell-all all cells c each (sym (has_cell-first_uses cells c) ∙ has))
