-- Rows under their letters, as a map's entries and as the list that contracts see.
--     lookup-view, insert_entry-view      a look-up and an insert are those of the list
--     lookup-insert_entry                 what is found after an insert
use Rattle.std.proofs.Common.{◌≡◌, Bool, true, false, cond, List, [], ◌∷◌, map, Option, Some, refl, sym, ap, ◌∙◌, true≢false}
use Rattle.std.specs.Cmp.{IsEquivalence}
use Rattle.std.specs.Map.{lookup}
use Rattle.indexmap.specs.IndexMap.{insert_entry}

module _ {K L X : Type 0} (f : K → L) where
  pub lookup-view : (test : L → Bool) (es : List (K × X)) → lookup (λ k. test (f k)) es ≡ lookup test (map (λ e. (f e.0, e.1)) es)
  lookup-view test [] = refl
  lookup-view test (e ∷ es) = ap (cond (test (f e.0)) (Some e.1)) (lookup-view test es)

  pub insert_entry-view : (same : L → L → Bool) (es : List (K × X)) (k : K) (v : X)
      → map (λ e. (f e.0, e.1)) (insert_entry (λ x y. same (f x) (f y)) es k v) ≡ insert_entry same (map (λ e. (f e.0, e.1)) es) (f k) v
  insert_entry-view same [] k v = refl
  insert_entry-view same (e ∷ es) k v = by (same (f k) (f e.0)) (insert_entry-view same es k v)
    where
      by : (b : Bool) → map (λ e. (f e.0, e.1)) (insert_entry (λ x y. same (f x) (f y)) es k v) ≡ insert_entry same (map (λ e. (f e.0, e.1)) es) (f k) v
          → map (λ e. (f e.0, e.1)) (cond b ((e.0, v) ∷ es) (e ∷ insert_entry (λ x y. same (f x) (f y)) es k v))
          ≡ cond b ((f e.0, v) ∷ map (λ e. (f e.0, e.1)) es) ((f e.0, e.1) ∷ insert_entry same (map (λ e. (f e.0, e.1)) es) (f k) v)
      by true rest = refl
      by false rest = ap (λ es. (f e.0, e.1) ∷ es) rest

-- what is found under q after v was put under k
pub lookup-insert_entry : {K X : Type 0} {eq : K → K → Bool} → IsEquivalence eq → (es : List (K × X)) (k : K) (v : X) (q : K)
    → lookup (eq q) (insert_entry eq es k v) ≡ cond (eq q k) (Some v) (lookup (eq q) es)
lookup-insert_entry laws [] k v q = refl
lookup-insert_entry {K} {X} {eq} laws (e ∷ es) k v q = by (eq k e.0) refl (lookup-insert_entry laws es k v q)
  where
    later : (a b : Bool) (r : Option X) → (a ≡ true → b ≡ false) → cond a (Some e.1) (cond b (Some v) r) ≡ cond b (Some v) (cond a (Some e.1) r)
    later true true r apart = absurd (true≢false (apart refl))
    later true false r apart = refl
    later false b r apart = refl

    twice : (b : Bool) (r : Option X) → cond b (Some v) r ≡ cond b (Some v) (cond b (Some e.1) r)
    twice true r = refl
    twice false r = refl

    by : (b : Bool) → eq k e.0 ≡ b → lookup (eq q) (insert_entry eq es k v) ≡ cond (eq q k) (Some v) (lookup (eq q) es)
        → lookup (eq q) (cond b ((e.0, v) ∷ es) (e ∷ insert_entry eq es k v)) ≡ cond (eq q k) (Some v) (cond (eq q e.0) (Some e.1) (lookup (eq q) es))
    by true same rest =
        let tied : eq q e.0 ≡ eq q k = laws.symm q e.0 ∙ sym (laws.congr k e.0 q same) ∙ laws.symm k q in
        rw tied (twice (eq q k) (lookup (eq q) es))
    by false apart rest =
        ap (cond (eq q e.0) (Some e.1)) rest
        ∙ later (eq q e.0) (eq q k) (lookup (eq q) es) (λ t. laws.congr q e.0 k t ∙ laws.symm e.0 k ∙ apart)
