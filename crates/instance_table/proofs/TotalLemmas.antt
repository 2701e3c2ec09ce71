-- Sums over a list, when one element changes.
use Rattle.std.proofs.Common.{◌≡◌, ◌≢◌, ℕ, zero, suc, ◌+◌, ◌<◌, ◌≤◌, refl, ap, sym, arith, Bool, true, false, List, [], ◌∷◌, ◌++◌, set, eqb, eq-eqb, ne_eqb, ltb}
use Rattle.std.proofs.lemmas.Bool.Decides.{nat_tests}
use mathlib.Core.Logic.{dite}
use mathlib.Core.Option.{some, some-injective, some-ne-none}
use native.Mathlib.Decide.{ℕ_discrete}
use lib.ListN.{get_elem?}
use Rattle.instance_table.specs.Totals.{total, one_if}

pub one_if-same : (n : ℕ) → one_if (eqb n n) ≡ 1
one_if-same n = ap one_if (eq-eqb n n refl)

pub one_if-eq : (n m : ℕ) → n ≡ m → one_if (eqb n m) ≡ 1
one_if-eq n m e = ap one_if (eq-eqb n m e)

pub one_if-other : (n m : ℕ) → n ≢ m → one_if (eqb n m) ≡ 0
one_if-other n m e = ap one_if (ne_eqb n m e)

pub one_if-is : (n m : ℕ) → 1 ≤ one_if (eqb n m) → n ≡ m
one_if-is n m h = dite (ℕ_discrete n m) (λ e. e) (λ other. absurd (omega (arith, one_if-other n m other)))

pub one_if-small : (b : Bool) → one_if b ≤ 1
one_if-small true = omega arith
one_if-small false = omega arith

pub one_if-true : (b : Bool) → b ≡ true → one_if b ≡ 1
one_if-true b e = ap one_if e

pub one_if-false : (b : Bool) → b ≡ false → one_if b ≡ 0
one_if-false b e = ap one_if e

pub one_if-below : (n m : ℕ) → 1 ≤ one_if (ltb n m) → n < m
one_if-below n m h = by_test (ltb n m) refl h
  where
    by_test : (b : Bool) → ltb n m ≡ b → 1 ≤ one_if b → n < m
    by_test true e h = grind (arith, nat_tests)
    by_test false e h = absurd (omega arith)

pub one_if-lt : (n m : ℕ) → n < m → one_if (ltb n m) ≡ 1
one_if-lt n m h = one_if-true (ltb n m) (grind (arith, nat_tests))

pub one_if-ge : (n m : ℕ) → m ≤ n → one_if (ltb n m) ≡ 0
one_if-ge n m h = one_if-false (ltb n m) (grind (arith, nat_tests))

module _ {A : Type 0} where
  pub total-append : (f : A → ℕ) (xs ys : List A) → total f (xs ++ ys) ≡ total f xs + total f ys
  total-append f [] ys = omega arith
  total-append f (x ∷ xs) ys = omega (arith, total-append f xs ys)

  pub total-push : (f : A → ℕ) (xs : List A) (y : A) → total f (xs ++ y ∷ []) ≡ total f xs + f y
  total-push f xs y = let e = total-append f xs (y ∷ []) in omega arith

  pub total-set : (f : A → ℕ) (xs : List A) (i : ℕ) (x y : A) → get_elem? xs i ≡ some x
      → total f (set xs i y) + f x ≡ total f xs + f y
  total-set f [] i x y e = absurd (some-ne-none x (sym e))
  total-set f (z ∷ zs) zero x y e = let same : f z ≡ f x = ap f (some-injective z x e) in omega arith
  total-set f (z ∷ zs) (suc i) x y e = let rest = total-set f zs i x y e in omega arith

  pub total-set_same : (f : A → ℕ) (xs : List A) (i : ℕ) (x y : A) → get_elem? xs i ≡ some x → f y ≡ f x
      → total f (set xs i y) ≡ total f xs
  total-set_same f xs i x y e same = let h = total-set f xs i x y e in omega arith

  pub total-one : (f : A → ℕ) (xs : List A) (i : ℕ) (x : A) → get_elem? xs i ≡ some x → f x ≤ total f xs
  total-one f [] i x e = absurd (some-ne-none x (sym e))
  total-one f (z ∷ zs) zero x e = let same : f z ≡ f x = ap f (some-injective z x e) in omega arith
  total-one f (z ∷ zs) (suc i) x e = let rest = total-one f zs i x e in omega arith

  pub total-two : (f : A → ℕ) (xs : List A) (i j : ℕ) (x y : A) → i ≢ j → get_elem? xs i ≡ some x → get_elem? xs j ≡ some y
      → f x + f y ≤ total f xs
  total-two f [] i j x y apart e d = absurd (some-ne-none x (sym e))
  total-two f (z ∷ zs) zero zero x y apart e d = absurd (apart refl)
  total-two f (z ∷ zs) zero (suc j) x y apart e d =
      let same : f z ≡ f x = ap f (some-injective z x e) in let rest = total-one f zs j y d in omega arith
  total-two f (z ∷ zs) (suc i) zero x y apart e d =
      let same : f z ≡ f y = ap f (some-injective z y d) in let rest = total-one f zs i x e in omega arith
  total-two f (z ∷ zs) (suc i) (suc j) x y apart e d =
      let rest = total-two f zs i j x y (λ k. apart (ap suc k)) e d in omega arith

  pub total-least : (f g : A → ℕ) → ((x : A) → f x ≤ g x) → (xs : List A) → total f xs ≤ total g xs
  total-least f g le [] = omega arith
  total-least f g le (z ∷ zs) = let here = le z in let rest = total-least f g le zs in omega arith

  -- what is less for each is less for all but one
  pub total-below : (f g : A → ℕ) → ((x : A) → f x ≤ g x) → (xs : List A) (i : ℕ) (x : A) → get_elem? xs i ≡ some x
      → total f xs + g x ≤ total g xs + f x
  total-below f g le [] i x e = absurd (some-ne-none x (sym e))
  total-below f g le (z ∷ zs) zero x e =
      let s : f z ≡ f x = ap f (some-injective z x e) in let t : g z ≡ g x = ap g (some-injective z x e) in
      let rest = total-least f g le zs in omega arith
  total-below f g le (z ∷ zs) (suc i) x e = let here = le z in let rest = total-below f g le zs i x e in omega arith

  pub total-zero : (f : A → ℕ) (xs : List A) → ((i : ℕ) (x : A) → get_elem? xs i ≡ some x → f x ≡ 0) → total f xs ≡ 0
  total-zero f [] none = refl
  total-zero f (z ∷ zs) none = let here = none 0 z refl in let rest = total-zero f zs (λ i x e. none (suc i) x e) in omega arith

  -- where all but one are 0, the sum is that one
  pub total-only : (f : A → ℕ) (xs : List A) (i : ℕ) (x : A) → get_elem? xs i ≡ some x
      → ((j : ℕ) (y : A) → j ≢ i → get_elem? xs j ≡ some y → f y ≡ 0) → total f xs ≡ f x
  total-only f [] i x e none = absurd (some-ne-none x (sym e))
  total-only f (z ∷ zs) zero x e none =
      let same : f z ≡ f x = ap f (some-injective z x e) in
      let rest = total-zero f zs (λ j y d. none (suc j) y (λ k. omega arith) d) in omega arith
  total-only f (z ∷ zs) (suc i) x e none =
      let here = none 0 z (λ k. omega arith) refl in
      let rest = total-only f zs i x e (λ j y apart d. none (suc j) y (λ k. apart (omega arith)) d) in omega arith

  pub total-same : (f g : A → ℕ) → ((x : A) → f x ≡ g x) → (xs : List A) → total f xs ≡ total g xs
  total-same f g same [] = refl
  total-same f g same (z ∷ zs) = let here = same z in let rest = total-same f g same zs in omega arith

  pub total-plus : (f g : A → ℕ) (xs : List A) → total (λ x. f x + g x) xs ≡ total f xs + total g xs
  total-plus f g [] = refl
  total-plus f g (z ∷ zs) = let rest = total-plus f g zs in omega arith
