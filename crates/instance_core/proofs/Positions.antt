-- The first place of a list at which a test passes.
use Rattle.std.proofs.Common.{◌≡◌, ℕ, zero, suc, ◌+◌, ◌-◌, ◌<◌, ◌≤◌, refl, ap, ◌∙◌, arith, Bool, true, false, cond, List, [], ◌∷◌, ◌++◌, length, map, get_or, Some, None}
use Rattle.std.specs.List.{position_from}
use Rattle.std.specs.Option.{option_map}

-- an element that no other place passes like
pub position_from-only : {X : Type 0} (t : X → Bool) (xs : List X) (start i : ℕ) (d : X) → i < length xs
    → t (get_or xs i d) ≡ true → ((k : ℕ) → k < length xs → t (get_or xs k d) ≡ true → k ≡ i)
    → position_from t start xs ≡ Some (start + i)
position_from-only t [] start i d within here only = absurd (omega arith)
position_from-only t (x ∷ xs) start zero d within here only = rw here (ap Some (omega arith))
position_from-only t (x ∷ xs) start (suc i) d within here only =
    not_first (t x) (λ passes. only 0 (omega arith) passes)
    (position_from-only t xs (start + 1) i d (omega arith) here
    (λ k below passes. let same : suc k ≡ suc i = only (suc k) (omega arith) passes in omega arith)
    ∙ ap Some (omega arith))
  where
    not_first : (b : Bool) → (b ≡ true → 0 ≡ suc i) → position_from t (start + 1) xs ≡ Some (start + suc i)
        → cond b (Some start) (position_from t (start + 1) xs) ≡ Some (start + suc i)
    not_first true same rest = let never : 0 ≡ suc i = same refl in absurd (omega arith)
    not_first false same rest = rest

pub position_from-nowhere : {X : Type 0} (t : X → Bool) (xs : List X) (start : ℕ) (d : X)
    → ((k : ℕ) → k < length xs → t (get_or xs k d) ≡ true → ⊥) → position_from t start xs ≡ None
position_from-nowhere t [] start d nowhere = refl
position_from-nowhere t (x ∷ xs) start d nowhere =
    not_first (t x) (λ passes. nowhere 0 (omega arith) passes)
    (position_from-nowhere t xs (start + 1) d (λ k below passes. nowhere (suc k) (omega arith) passes))
  where
    not_first : (b : Bool) → (b ≡ true → ⊥) → position_from t (start + 1) xs ≡ None
        → cond b (Some start) (position_from t (start + 1) xs) ≡ None
    not_first true never rest = absurd (never refl)
    not_first false never rest = rest

-- in two lists, where the first has a place and where it has none
pub position_from-append_found : {X : Type 0} (t : X → Bool) (xs ys : List X) (start n : ℕ)
    → position_from t start xs ≡ Some n → position_from t start (xs ++ ys) ≡ Some n
position_from-append_found t [] ys start n found = absurd (cc)
position_from-append_found t (x ∷ xs) ys start n found =
    first (t x) (position_from-append_found t xs ys (start + 1) n) found
  where
    first : (b : Bool) → (position_from t (start + 1) xs ≡ Some n → position_from t (start + 1) (xs ++ ys) ≡ Some n)
        → cond b (Some start) (position_from t (start + 1) xs) ≡ Some n
        → cond b (Some start) (position_from t (start + 1) (xs ++ ys)) ≡ Some n
    first true later found = found
    first false later found = later found

pub position_from-append_none : {X : Type 0} (t : X → Bool) (xs ys : List X) (start : ℕ)
    → position_from t start xs ≡ None → position_from t start (xs ++ ys) ≡ position_from t (start + length xs) ys
position_from-append_none t [] ys start none = ap (λ n. position_from t n ys) (omega arith)
position_from-append_none t (x ∷ xs) ys start none =
    first (t x)
    (λ later. position_from-append_none t xs ys (start + 1) later ∙ ap (λ n. position_from t n ys) (omega arith)) none
  where
    first : (b : Bool)
        → (position_from t (start + 1) xs ≡ None → position_from t (start + 1) (xs ++ ys) ≡ position_from t (start + suc (length xs)) ys)
        → cond b (Some start) (position_from t (start + 1) xs) ≡ None
        → cond b (Some start) (position_from t (start + 1) (xs ++ ys)) ≡ position_from t (start + suc (length xs)) ys
    first true later none = absurd (cc)
    first false later none = later none

-- a list of images under a test of the images
pub position_from-map : {X Y : Type 0} (t : Y → Bool) (u : X → Bool) (f : X → Y) → ((x : X) → t (f x) ≡ u x)
    → (xs : List X) (start : ℕ) → position_from t start (map f xs) ≡ position_from u start xs
position_from-map t u f agree [] start = refl
position_from-map t u f agree (x ∷ xs) start =
    ap (λ b. cond b (Some start) (position_from t (start + 1) (map f xs))) (agree x)
    ∙ ap (λ rest. cond (u x) (Some start) rest) (position_from-map t u f agree xs (start + 1))

-- counted from a later place on
pub position_from-later : {X : Type 0} (t : X → Bool) (xs : List X) (start more : ℕ)
    → position_from t (more + start) xs ≡ option_map (λ n. more + n) (position_from t start xs)
position_from-later t [] start more = refl
position_from-later t (x ∷ xs) start more =
    first (t x) (ap (λ n. position_from t n xs) (omega arith) ∙ position_from-later t xs (start + 1) more)
  where
    first : (b : Bool) → position_from t (more + start + 1) xs ≡ option_map (λ n. more + n) (position_from t (start + 1) xs)
        → cond b (Some (more + start)) (position_from t (more + start + 1) xs)
        ≡ option_map (λ n. more + n) (cond b (Some start) (position_from t (start + 1) xs))
    first true rest = refl
    first false rest = rest

some_same : {a b : ℕ} → Some a ≡ Some b → a ≡ b
some_same same = cc

-- the place has an element that passes
pub position_from-passes : {X : Type 0} (t : X → Bool) (xs : List X) (start n : ℕ) (d : X)
    → position_from t start xs ≡ Some n
    → (start ≤ n) × (n - start < length xs) × (t (get_or xs (n - start) d) ≡ true)
position_from-passes t [] start n d found = absurd (cc)
position_from-passes t (x ∷ xs) start n d found =
    first (t x) refl (position_from-passes t xs (start + 1) n d) found
  where
    first : (b : Bool) → t x ≡ b
        → (position_from t (start + 1) xs ≡ Some n → (start + 1 ≤ n) × (n - (start + 1) < length xs) × (t (get_or xs (n - (start + 1)) d) ≡ true))
        → cond b (Some start) (position_from t (start + 1) xs) ≡ Some n
        → (start ≤ n) × (n - start < suc (length xs)) × (t (get_or (x ∷ xs) (n - start) d) ≡ true)
    first true passes later found =
        let same : start ≡ n = some_same found in
        let zeroth : n - start ≡ 0 = omega arith in
        (omega arith, omega arith, rw zeroth passes)
    first false fails later found =
        let rest = later found in
        let place : n - start ≡ suc (n - (start + 1)) = omega (arith, rest.0) in
        (omega (arith, rest.0), omega (arith, rest.0, rest.1), rw place rest.2)
