-- What stands at the first n places, and the first fault among them.
use Rattle.std.proofs.Common.{◌≡◌, ℕ, zero, suc, ◌+◌, ◌-◌, ◌<◌, List, [], ◌∷◌, ◌++◌, length, get_or, Option, Some, None, refl, sym, ap, ◌∙◌, inl, inr, add-one, add-zero, arith, length-append}
use Rattle.std.specs.Prelude.{slice_get}
use Rattle.std.specs.Option.{option_or}
use Rattle.std.proofs.lemmas.Bool.{cases_lt}
use Rattle.std.proofs.lemmas.List.{get_or_push, get_or_append_left, same_lists}
use Rattle.std.proofs.lemmas.Option.{slice_get-get_or}
use Rattle.tfm_read.specs.Entries.{entries, first_of}

pub first_of-more : {X : Type 0} (f : ℕ → Option X) (n : ℕ) → first_of f (n + 1) ≡ option_or (first_of f n) (f n)
unfolding first_of
first_of-more f n = rw add-one refl

-- nothing among one more
pub first_of_one : {X : Type 0} (f : ℕ → Option X) (n : ℕ) → first_of f n ≡ None → f n ≡ None → first_of f (n + 1) ≡ None
first_of_one f n before here = rw (first_of-more, before) here

pub first_of_none : {X : Type 0} (f : ℕ → Option X) → first_of f 0 ≡ None
unfolding first_of
first_of_none f = refl

-- what was found stays the first
first_of_stays : {X : Type 0} (f : ℕ → Option X) (i : ℕ) (x : X) (more : ℕ) → first_of f i ≡ Some x → first_of f (i + more) ≡ Some x
first_of_stays f i x zero found = rw add-zero found
first_of_stays f i x (suc more) found =
    let e : i + suc more ≡ (i + more) + 1 = omega arith in
    rw (e, first_of-more, first_of_stays f i x more found) refl

-- the first that is there
pub first_of_found : {X : Type 0} (f : ℕ → Option X) (i n : ℕ) (x : X) → i < n → first_of f i ≡ None → f i ≡ Some x → first_of f n ≡ Some x
first_of_found f i n x lt before here =
    let e : n ≡ (i + 1) + (n - (i + 1)) = omega arith in
    let first : first_of f (i + 1) ≡ Some x = rw (first_of-more, before) here in
    ap (first_of f) e ∙ first_of_stays f (i + 1) x (n - (i + 1)) first

option_or_none : {X : Type 0} (a b : Option X) → option_or a b ≡ None → (a ≡ None) × (b ≡ None)
option_or_none None b e = (refl, e)
option_or_none (Some x) b e = absurd cc

-- each of n is nothing
pub first_of-at : {X : Type 0} (f : ℕ → Option X) (n i : ℕ) → i < n → first_of f n ≡ None → f i ≡ None
unfolding first_of
first_of-at f zero i lt none = absurd (omega arith)
first_of-at f (suc n) i lt none =
    let both = option_or_none (first_of f n) (f n) none in
    elim (cases_lt i n) [
      | inl below ↦ first_of-at f n i below both.0
      | inr here ↦ let e : i ≡ n = omega arith in ap f e ∙ both.1
    ]

pub entries-more : {X : Type 0} (f : ℕ → X) (n : ℕ) → entries f (n + 1) ≡ entries f n ++ f n ∷ []
unfolding entries
entries-more f n = rw add-one refl

pub entries_none : {X : Type 0} (f : ℕ → X) → entries f 0 ≡ []
unfolding entries
entries_none f = refl

pub length-entries : {X : Type 0} (f : ℕ → X) (n : ℕ) → length (entries f n) ≡ n
unfolding entries
length-entries f zero = refl
length-entries f (suc n) = length-append (entries f n) (f n ∷ []) ∙ omega (arith, length-entries f n)

pub get_or-entries : {X : Type 0} (f : ℕ → X) (n k : ℕ) (d : X) → k < n → get_or (entries f n) k d ≡ f k
unfolding entries
get_or-entries f zero k d lt = absurd (omega arith)
get_or-entries f (suc n) k d lt =
    elim (cases_lt k n) [
      | inl below ↦ get_or_append_left (entries f n) (f n ∷ []) d k (omega (arith, length-entries f n)) ∙ get_or-entries f n k d below
      | inr here ↦
          let e : k ≡ n = omega arith in
          get_or_push (entries f n) (f n) d k (length-entries f n ∙ sym e) ∙ ap f (sym e)
    ]

pub slice_get-entries : {X : Type 0} (f : ℕ → X) (n k : ℕ) → k < n → slice_get (entries f n) k ≡ Some (f k)
slice_get-entries f n k lt =
    slice_get-get_or (entries f n) k (f k) (omega (arith, length-entries f n)) ∙ ap Some (get_or-entries f n k (f k) lt)

-- a list that has f k at each of n places
pub entries_all : {X : Type 0} (f : ℕ → X) (n : ℕ) (xs : List X) → length xs ≡ n → ((k : ℕ) (d : X) → k < n → get_or xs k d ≡ f k) → xs ≡ entries f n
entries_all f n xs len each =
    same_lists xs (entries f n) (len ∙ sym (length-entries f n)) (λ k d lt. each k d (omega arith) ∙ sym (get_or-entries f n k d (omega arith)))

-- functions that agree below n have the same entries
pub entries_same : {X : Type 0} (f g : ℕ → X) (n : ℕ) → ((k : ℕ) → k < n → f k ≡ g k) → entries f n ≡ entries g n
entries_same f g n agree =
    entries_all g n (entries f n) (length-entries f n) (λ k d lt. get_or-entries f n k d lt ∙ agree k lt)

pub entries_push : {X : Type 0} (f : ℕ → X) (n : ℕ) (xs : List X) (x : X) → xs ≡ entries f n → x ≡ f n → xs ++ x ∷ [] ≡ entries f (n + 1)
entries_push {X} f n xs x e is = ap (λ (ys : List X). ys ++ x ∷ []) e ∙ ap (λ (y : X). entries f n ++ y ∷ []) is ∙ sym (entries-more f n)
