-- Counting by number: sums over the numbers below a bound.
--     below f n    f of each number below n, added up
use Rattle.std.proofs.Common.{◌≡◌, ℕ, zero, suc, ◌+◌, ◌<◌, ◌≤◌, refl, ap, ◌∙◌, arith, Bool, true, false, ◌&&◌, List, [], ◌∷◌, length, get_or, eqb, leb, eq-eqb, ne_eqb, All}
use Rattle.std.proofs.lemmas.Bool.Decides.{nat_tests}
use Rattle.std.proofs.lemmas.List.Elements.{All-head, All-tail}
use mathlib.Core.Logic.{dite}
use native.Mathlib.Decide.{ℕ_discrete, dec_le}
use Rattle.instance_table.specs.Totals.{total, one_if}
use Rattle.instance_table.proofs.TotalLemmas.{one_if-small, one_if-true, one_if-false}

abbrev pub below : (ℕ → ℕ) → ℕ → ℕ
below f zero = 0
below f (suc n) = f n + below f n

below-least : (f g : ℕ → ℕ) (n : ℕ) → ((x : ℕ) → x < n → f x ≤ g x) → below f n ≤ below g n
below-least f g zero le = omega arith
below-least f g (suc n) le = let here = le n (omega arith) in let rest = below-least f g n (λ x small. le x (omega arith)) in omega arith

below-plus : (f g : ℕ → ℕ) (n : ℕ) → below (λ x. f x + g x) n ≡ below f n + below g n
below-plus f g zero = refl
below-plus f g (suc n) = let rest = below-plus f g n in omega arith

below-zero : (n : ℕ) → below (λ _. 0) n ≡ 0
below-zero zero = refl
below-zero (suc n) = let rest = below-zero n in omega arith

pub below-most : (f : ℕ → ℕ) (n : ℕ) → ((x : ℕ) → x < n → f x ≤ 1) → below f n ≤ n
below-most f zero le = omega arith
below-most f (suc n) le = let here = le n (omega arith) in let rest = below-most f n (λ x small. le x (omega arith)) in omega arith

below-total : {A : Type 0} (g : ℕ → A → ℕ) (n : ℕ) (es : List A) → below (λ x. total (g x) es) n ≡ total (λ e. below (λ x. g x e) n) es
below-total g n [] = below-zero n
below-total g n (e ∷ es) = let rest = below-total g n es in let both = below-plus (λ x. g x e) (λ x. total (g x) es) n in omega arith

and_small : (b c : Bool) → one_if (b && c) ≤ one_if b
and_small true c = one_if-small c
and_small false c = omega arith

and_is : (b c : Bool) → c ≡ true → one_if (b && c) ≡ one_if b
and_is true c e = ap one_if e
and_is false c e = refl

and_not : (b c : Bool) → c ≡ false → one_if (b && c) ≡ 0
and_not true c e = ap one_if e
and_not false c e = refl

below-other : (b : Bool) (k n : ℕ) → n ≤ k → below (λ x. one_if (b && eqb k x)) n ≡ 0
below-other b k zero h = refl
below-other b k (suc n) h =
    let here = and_not b (eqb k n) (ne_eqb k n (λ e. omega arith)) in
    let rest = below-other b k n (omega arith) in omega arith

pub below-pick : (b : Bool) (k n : ℕ) → k < n → below (λ x. one_if (b && eqb k x)) n ≡ one_if b
below-pick b k zero h = absurd (omega arith)
below-pick b k (suc n) h = dite (ℕ_discrete k n)
    (λ e. let here = and_is b (eqb k n) (eq-eqb k n e) in let rest = below-other b k n (omega arith) in omega arith)
    (λ apart.
    let here = and_not b (eqb k n) (ne_eqb k n apart) in
    let rest = below-pick b k n (omega arith) in omega arith)

below-pick_most : (b : Bool) (k n : ℕ) → below (λ x. one_if (b && eqb k x)) n ≤ one_if b
below-pick_most b k n = dite (dec_le (suc k) n) (λ small. let e = below-pick b k n small in omega arith) (λ large. let e = below-other b k n (omega arith) in omega arith)

total-least_all : {A : Type 0} (f g : A → ℕ) (es : List A) → All (λ e. f e ≡ g e) es → total f es ≡ total g es
total-least_all f g [] each = refl
total-least_all f g (e ∷ es) each =
    let here = All-head (λ x. f x ≡ g x) e es each in
    let rest = total-least_all f g es (All-tail (λ x. f x ≡ g x) e es each) in omega arith

total-most : {A : Type 0} (f g : A → ℕ) → ((e : A) → f e ≤ g e) → (es : List A) → total f es ≤ total g es
total-most f g le [] = omega arith
total-most f g le (e ∷ es) = let here = le e in let rest = total-most f g le es in omega arith

-- each element that is marked has a number below n, and at most one of each number is marked: at most n are marked
pub few_marked : {A : Type 0} (mark : A → Bool) (number : A → ℕ) (n : ℕ) (es : List A) → All (λ e. number e < n) es
    → ((x : ℕ) → x < n → total (λ e. one_if (mark e && eqb (number e) x)) es ≤ 1) → total (λ e. one_if (mark e)) es ≤ n
few_marked {A} mark number n es each once =
    let swap = below-total (λ x e. one_if (mark e && eqb (number e) x)) n es in
    let same = total-least_all (λ e. below (λ x. one_if (mark e && eqb (number e) x)) n) (λ e. one_if (mark e)) es
    (λ k d inside. below-pick (mark (get_or es k d)) (number (get_or es k d)) n (each k d inside)) in
    let most = below-most (λ x. total (λ e. one_if (mark e && eqb (number e) x)) es) n once in
    omega arith

-- how many of the numbers below n are at least d
late_below : (d n : ℕ) → n ≤ d + below (λ x. one_if (leb d x)) n
late_below d zero = omega arith
late_below d (suc n) =
    let rest = late_below d n in
    dite (dec_le d n) (λ late. let one = one_if-true (leb d n) (grind (arith, nat_tests)) in omega arith) (λ early. omega arith)

-- where each number below n is an element's, n is at most d and the elements at d or above
pub many_late : {A : Type 0} (value : A → ℕ) (d n : ℕ) (es : List A) → ((x : ℕ) → x < n → 1 ≤ total (λ e. one_if (eqb (value e) x)) es)
    → n ≤ d + total (λ e. one_if (leb d (value e))) es
many_late {A} value d n es each =
    let lates = late_below d n in
    let found = below-least (λ x. one_if (leb d x)) (λ x. total (λ e. one_if (leb d (value e) && eqb (value e) x)) es) n find in
    let swap = below-total (λ x e. one_if (leb d (value e) && eqb (value e) x)) n es in
    let most = total-most (λ e. below (λ x. one_if (leb d (value e) && eqb (value e) x)) n) (λ e. one_if (leb d (value e))) (λ e. below-pick_most (leb d (value e)) (value e) n) es in
    omega arith
  where
    same_mark : (x : ℕ) (e : A) → leb d x ≡ true → one_if (eqb (value e) x) ≤ one_if (leb d (value e) && eqb (value e) x)
    same_mark x e late = dite (ℕ_discrete (value e) x)
        (λ is. let both = and_is (leb d (value e)) (eqb (value e) x) (eq-eqb (value e) x is) in
        let one = one_if-true (leb d (value e)) (ap (leb d) is ∙ late) in
        let small = one_if-small (eqb (value e) x) in omega arith)
        (λ apart. let none = one_if-false (eqb (value e) x) (ne_eqb (value e) x apart) in omega arith)

    find : (x : ℕ) → x < n → one_if (leb d x) ≤ total (λ e. one_if (leb d (value e) && eqb (value e) x)) es
    find x small = by_test (leb d x) refl
      where
        by_test : (b : Bool) → leb d x ≡ b → one_if b ≤ total (λ e. one_if (leb d (value e) && eqb (value e) x)) es
        by_test true late =
            let some_of = each x small in
            let more = total-most (λ e. one_if (eqb (value e) x)) (λ e. one_if (leb d (value e) && eqb (value e) x)) (λ e. same_mark x e late) es in
            omega arith
        by_test false early = omega arith

pub total-length : {A : Type 0} (es : List A) → total (λ e. one_if true) es ≡ length es
total-length [] = refl
total-length (e ∷ es) = let rest = total-length es in omega arith
