-- What values that begin at a place say of another, and the places that pass a test.
use Rattle.std.proofs.Common.{◌≡◌, ℕ, zero, suc, ◌+◌, ◌-◌, ◌<◌, ◌≤◌, max, Bool, true, false, cond, ◌&&◌, List, [], ◌∷◌, filter, length, get_or, refl, sym, ap, ◌∙◌, arith, leb, eqb, ◌||◌, ◌++◌, ◌%◌, take, set, ⊎_elim, add-one, ℤ}
use Rattle.std.specs.List.{range_with_len, list_any, All}
use Rattle.std.specs.List.Sorted.{IsStrictlyIncreasing}
use Rattle.std.proofs.lemmas.List.{get_or_past, append-nil, get_or-set_same, get_or-set_other}
use Rattle.std.proofs.lemmas.List.Folds.{list_any_more}
use Rattle.std.proofs.lemmas.List.Elements.{All-nil, All-cons}
use Rattle.std.proofs.lemmas.List.FromFn.{length-range_with_len, get_or-range_with_len}
use Rattle.std.proofs.lemmas.List.Kept.{IsStrictlyIncreasing-filter}
use Rattle.std.proofs.lemmas.Bool.{lt-leb, le-leb, leb-true, cond-true, cond-false, and_parts, eq-eqb, ne_eqb, cases_eq}
use Rattle.liang_hyph.specs.Places.{value_at, margin, places_within}

module _ (values : List ℕ) (at h : ℕ) where
  -- nothing of what lies before them
  pub value_at-before : h < at → value_at values at h ≡ 0
  value_at-before l = cond-false (leb at h) _ _ (lt-leb at h l)

  pub value_at-from : at ≤ h → value_at values at h ≡ get_or values (h - at) 0
  value_at-from l = cond-true (leb at h) _ _ (le-leb at h l)

  -- nor of what they do not reach
  pub value_at-past : length values + at ≤ h → value_at values at h ≡ 0
  value_at-past l = value_at-from (omega arith) ∙ get_or_past values (h - at) 0 (omega arith)

pub value_at-nil : (at h : ℕ) → value_at [] at h ≡ 0
value_at-nil at h = by (leb at h)
  where
    by : (b : Bool) → ◌≡◌ {A = ℕ} (cond b 0 0) 0
    by true = refl
    by false = refl

-- values that are everywhere the greater of two
pub value_at-max : (a b c : List ℕ) → ((k : ℕ) → get_or c k 0 ≡ max (get_or a k 0) (get_or b k 0)) → (at h : ℕ) → value_at c at h ≡ max (value_at a at h) (value_at b at h)
value_at-max a b c e at h = by (leb at h)
  where
    by : (t : Bool) → cond t (get_or c (h - at) 0) 0 ≡ max (cond t (get_or a (h - at) 0) 0) (cond t (get_or b (h - at) 0) 0)
    by true = e (h - at)
    by false = refl

filter-same : (t u : ℕ → Bool) (a n : ℕ) → ((h : ℕ) → h < a + n → t h ≡ u h) → filter t (range_with_len a n) ≡ filter u (range_with_len a n)
filter-same t u a zero e = refl
filter-same t u a (suc n) e =
    let first = e a (omega arith) in
    let rest = filter-same t u (a + 1) n (λ h l. e h (omega arith)) in
    λ i. cond (first i) (a ∷ rest i) (rest i)

-- tests that agree leave the same places
pub places_within-same : (len : ℕ) (left right : ℤ) (t u : ℕ → Bool) → ((h : ℕ) → h ≤ len → t h ≡ u h) → places_within len left right t ≡ places_within len left right u
places_within-same len left right t u e =
    filter-same _ _ 0 (len + 1) (λ h l. ap (λ b. leb (margin left) h && leb (h + margin right) len && b) (e h (omega arith)))

range-increasing : (a n : ℕ) → IsStrictlyIncreasing (range_with_len a n)
range-increasing a n k l =
    let long = length-range_with_len a n in
    let here = get_or-range_with_len a n k 0 (omega arith) in
    let next = get_or-range_with_len a n (k + 1) 0 (omega arith) in
    omega arith

-- what a filter leaves of them ascends
pub filter-range_ascends : (t : ℕ → Bool) (n : ℕ) → IsStrictlyIncreasing (filter t (range_with_len 0 n))
filter-range_ascends t n = IsStrictlyIncreasing-filter t (range_with_len 0 n) (range-increasing 0 n)

All-passed : {P : ℕ → Type 0} (t : ℕ → Bool) → ((h : ℕ) → t h ≡ true → P h) → (hs : List ℕ) → All P (filter t hs)
All-passed {P} t says [] = All-nil P
All-passed {P} t says (h ∷ hs) = by (t h) refl (All-passed t says hs)
  where
    by : (b : Bool) → t h ≡ b → All P (filter t hs) → All P (cond b (h ∷ filter t hs) (filter t hs))
    by true e rest = All-cons P h (filter t hs) (says h e) rest
    by false e rest = rest

-- each place within margins has a letter before it and one after it
pub filter-range_inside : (before after len n : ℕ) (test : ℕ → Bool) → 0 < before → 0 < after
    → All (λ h. (0 < h) × (h < len)) (filter (λ h. leb before h && leb (h + after) len && test h) (range_with_len 0 n))
filter-range_inside before after len n test low high =
    All-passed {P = λ h. (0 < h) × (h < len)} (λ h. leb before h && leb (h + after) len && test h)
    (λ h e.
    let parts = and_parts (leb before h && leb (h + after) len) (test h) e in
    let margins = and_parts (leb before h) (leb (h + after) len) parts.0 in
    let first = leb-true before h margins.0 in
    let last = leb-true (h + after) len margins.1 in
    (omega arith, omega arith))
    (range_with_len 0 n)

-- ---- steps of loops

filter-range_more : (t : ℕ → Bool) (a n : ℕ) → filter t (range_with_len a (suc n)) ≡ filter t (range_with_len a n) ++ cond (t (a + n)) ((a + n) ∷ []) []
filter-range_more t a zero = let same : a ≡ a + 0 = omega arith in ap (λ k. cond (t k) (k ∷ []) []) same
filter-range_more t a (suc n) =
    let next : a + 1 + n ≡ a + suc n = omega arith in
    let rest = filter-range_more t (a + 1) n ∙ ap (λ k. filter t (range_with_len (a + 1) n) ++ cond (t k) (k ∷ []) []) next in
    by (t a) _ _ _ rest
  where
    by : (b : Bool) (xs ys zs : List ℕ) → xs ≡ ys ++ zs → cond b (a ∷ xs) xs ≡ cond b (a ∷ ys) ys ++ zs
    by true xs ys zs e = ap (λ l. a ∷ l) e
    by false xs ys zs e = e

-- one more place, which passes the test or not
pub filter-range_taken : (t : ℕ → Bool) (h : ℕ) → t h ≡ true → filter t (range_with_len 0 (h + 1)) ≡ filter t (range_with_len 0 h) ++ h ∷ []
filter-range_taken t h e =
    let here : 0 + h ≡ h = omega arith in
    ap (λ n. filter t (range_with_len 0 n)) (add-one h) ∙ filter-range_more t 0 h
    ∙ ap (λ k. filter t (range_with_len 0 h) ++ cond (t k) (k ∷ []) []) here ∙ ap (λ l. filter t (range_with_len 0 h) ++ l) (cond-true (t h) (h ∷ []) [] e)

pub filter-range_left : (t : ℕ → Bool) (h : ℕ) → t h ≡ false → filter t (range_with_len 0 (h + 1)) ≡ filter t (range_with_len 0 h)
filter-range_left t h e =
    let here : 0 + h ≡ h = omega arith in
    ap (λ n. filter t (range_with_len 0 n)) (add-one h) ∙ filter-range_more t 0 h
    ∙ ap (λ k. filter t (range_with_len 0 h) ++ cond (t k) (k ∷ []) []) here ∙ ap (λ l. filter t (range_with_len 0 h) ++ l) (cond-false (t h) (h ∷ []) [] e)
    ∙ append-nil (filter t (range_with_len 0 h))

-- one more listed place
pub listed-more : (values new places : List ℕ) (i p h : ℕ) → i < length places → p ≡ get_or places i 0
    → get_or values h 0 ≡ cond (list_any (λ place. eqb place h) (take i places)) 1 0
    → get_or new h 0 ≡ cond (eqb p h) 1 (get_or values h 0)
    → get_or new h 0 ≡ cond (list_any (λ place. eqb place h) (take (i + 1) places)) 1 0
listed-more values new places i p h l at before now =
    now ∙ (λ j. cond (eqb (at j) h) 1 (before j)) ∙ by (list_any (λ place. eqb place h) (take i places)) (eqb (get_or places i 0) h)
    ∙ ap (λ b. cond b 1 0) (sym (list_any_more (λ place. eqb place h) places i 0 l))
  where
    by : (a b : Bool) → ◌≡◌ {A = ℕ} (cond b 1 (cond a 1 0)) (cond (a || b) 1 0)
    by true true = refl
    by true false = refl
    by false true = refl
    by false false = refl

-- a 1 that is written at p
pub get_or-set_one : (values : List ℕ) (p h : ℕ) → p < length values → get_or (set values p 1) h 0 ≡ cond (eqb p h) 1 (get_or values h 0)
get_or-set_one values p h l =
    ⊎_elim
    (λ (same : p ≡ h). ap (λ k. get_or (set values p 1) k 0) (sym same) ∙ get_or-set_same values p 1 0 l ∙ sym (cond-true (eqb p h) 1 (get_or values h 0) (eq-eqb p h same)))
    (λ (apart : p ≡ h → ⊥). get_or-set_other values p h 1 0 (λ e. apart (sym e)) ∙ sym (cond-false (eqb p h) 1 (get_or values h 0) (ne_eqb p h apart)))
    (cases_eq p h)

-- which value is odd
pub odd-listed : (b : Bool) → eqb (cond b 1 0 % 2) 1 ≡ b
odd-listed true = refl
odd-listed false = refl
