-- The greatest of some numbers.
--     greatest-append, greatest_of-cons, greatest_of-push       of a list made of others, or filtered
--     greatest_below-same, -zero, -max, -one, -silent           of the numbers below n
--     greatest_of_numbers                                       from the one to the other
use Rattle.std.proofs.Common.{◌≡◌, ℕ, zero, suc, ◌+◌, ◌<◌, ◌≤◌, max, Bool, true, false, cond, List, [], ◌∷◌, ◌++◌, map, filter, refl, sym, ap, ◌∙◌, arith, add-one, ⊎_elim}
use Rattle.std.specs.List.{range_with_len}
use Rattle.std.proofs.lemmas.Bool.{cases_lt}
use Rattle.liang_hyph.specs.Greatest.{greatest, greatest_below}

pub greatest-append : (xs ys : List ℕ) → greatest (xs ++ ys) ≡ max (greatest xs) (greatest ys)
greatest-append [] ys = omega arith
greatest-append (x ∷ xs) ys = let rest = greatest-append xs ys in omega arith

module _ {X : Type 0} (f : X → ℕ) (test : X → Bool) where
  -- one more element in front counts where it passes the test
  pub greatest_of-cons : (x : X) (xs : List X) → greatest (map f (filter test (x ∷ xs))) ≡ max (cond (test x) (f x) 0) (greatest (map f (filter test xs)))
  greatest_of-cons x xs = by (test x)
    where
      by : (b : Bool) → greatest (map f (cond b (x ∷ filter test xs) (filter test xs))) ≡ max (cond b (f x) 0) (greatest (map f (filter test xs)))
      by true = refl
      by false = omega arith

  -- and at the end
  pub greatest_of-push : (xs : List X) (x : X) → greatest (map f (filter test (xs ++ x ∷ []))) ≡ max (greatest (map f (filter test xs))) (cond (test x) (f x) 0)
  greatest_of-push [] x =
      let step = greatest_of-cons x [] in omega arith
  greatest_of-push (y ∷ ys) x =
      let more = greatest_of-cons y (ys ++ x ∷ []) in
      let less = greatest_of-cons y ys in
      let rest = greatest_of-push ys x in
      omega arith

-- the same numbers have the same greatest
pub greatest_below-same : (f g : ℕ → ℕ) (n : ℕ) → ((k : ℕ) → k < n → f k ≡ g k) → greatest_below f n ≡ greatest_below g n
greatest_below-same f g zero h = refl
greatest_below-same f g (suc n) h =
    let rest = greatest_below-same f g n (λ k l. h k (omega arith)) in
    let last = h n (omega arith) in
    omega arith

pub greatest_below-zero : (f : ℕ → ℕ) (n : ℕ) → ((k : ℕ) → k < n → f k ≡ 0) → greatest_below f n ≡ 0
greatest_below-zero f zero h = refl
greatest_below-zero f (suc n) h =
    let rest = greatest_below-zero f n (λ k l. h k (omega arith)) in
    let last = h n (omega arith) in
    omega arith

pub greatest_below-max : (f g : ℕ → ℕ) (n : ℕ) → greatest_below (λ k. max (f k) (g k)) n ≡ max (greatest_below f n) (greatest_below g n)
greatest_below-max f g zero = refl
greatest_below-max f g (suc n) = let rest = greatest_below-max f g n in omega arith

-- numbers that are 0 from m on do not count
pub greatest_below-silent : (f : ℕ → ℕ) (m n : ℕ) → m ≤ n → ((k : ℕ) → m ≤ k → k < n → f k ≡ 0) → greatest_below f n ≡ greatest_below f m
greatest_below-silent f m zero l h = let same : m ≡ 0 = omega arith in rw same refl
greatest_below-silent f m (suc n) l h =
    ⊎_elim
    (λ (below : m < suc n).
    let rest = greatest_below-silent f m n (omega arith) (λ k a b. h k a (omega arith)) in
    let last = h n (omega arith) (omega arith) in
    let same : greatest_below f (suc n) ≡ greatest_below f m = omega arith in
    same)
    (λ (whole : suc n ≤ m). let same : m ≡ suc n = omega arith in ap (greatest_below f) (sym same))
    (cases_lt m (suc n))

greatest_below-le : (f : ℕ → ℕ) (n v : ℕ) → ((j : ℕ) → j < n → f j ≤ v) → greatest_below f n ≤ v
greatest_below-le f zero v h = omega arith
greatest_below-le f (suc n) v h =
    let rest = greatest_below-le f n v (λ j l. h j (omega arith)) in
    let last = h n (omega arith) in
    omega arith

-- one number alone counts
pub greatest_below-one : (f : ℕ → ℕ) (n k v : ℕ) → k < n → f k ≡ v → ((j : ℕ) → j < n → f j ≤ v) → greatest_below f n ≡ v
greatest_below-one f zero k v l e h = absurd (omega arith)
greatest_below-one f (suc n) k v l e h =
    ⊎_elim
    (λ (below : k < n).
    let rest = greatest_below-one f n k v below e (λ j m. h j (omega arith)) in
    let last = h n (omega arith) in
    let same : greatest_below f (suc n) ≡ v = omega arith in
    same)
    (λ (here : n ≤ k).
    let at : n ≡ k = omega arith in
    let rest = greatest_below-le f n v (λ j m. h j (omega arith)) in
    let last : f n ≡ v = ap f at ∙ e in
    let same : greatest_below f (suc n) ≡ v = omega arith in
    same)
    (cases_lt k n)

range_push : (a n : ℕ) → range_with_len a (suc n) ≡ range_with_len a n ++ (a + n) ∷ []
range_push a zero = ap (λ k. k ∷ []) (omega arith)
range_push a (suc n) =
    let next : a + 1 + n ≡ a + suc n = omega arith in
    ap (λ rest. a ∷ rest) (range_push (a + 1) n ∙ ap (λ k. range_with_len (a + 1) n ++ k ∷ []) next)

-- the greatest over the numbers below n that pass a test
pub greatest_of_numbers : (f : ℕ → ℕ) (test : ℕ → Bool) (n : ℕ) → greatest (map f (filter test (range_with_len 0 n))) ≡ greatest_below (λ k. cond (test k) (f k) 0) n
greatest_of_numbers f test zero = refl
greatest_of_numbers f test (suc n) =
    let here : 0 + n ≡ n = omega arith in
    let all : range_with_len 0 (suc n) ≡ range_with_len 0 n ++ n ∷ [] = range_push 0 n ∙ ap (λ k. range_with_len 0 n ++ k ∷ []) here in
    let rest = greatest_of_numbers f test n in
    ap (λ ks. greatest (map f (filter test ks))) all ∙ greatest_of-push f test (range_with_len 0 n) n ∙ ap (λ g. max g (cond (test n) (f n) 0)) rest

-- one more number
pub greatest_below-more : (f : ℕ → ℕ) (n : ℕ) → greatest_below f (n + 1) ≡ max (greatest_below f n) (f n)
greatest_below-more f n = ap (greatest_below f) (add-one n)
