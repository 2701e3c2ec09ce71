-- The rows of merged patterns and of exceptions, one more at a time.
--     IsMerged-taken, -skipped      a pattern of the kind, and one of another kind
--     IsListed-more                 an exception
use Rattle.std.proofs.Common.{◌≡◌, ℕ, ◌+◌, max, Bool, true, false, cond, ◌&&◌, List, [], ◌∷◌, ◌++◌, map, filter, Some, ◌<◌, length, take, get_or, subst, true≢false, refl, sym, ap, ◌∙◌, arith}
use Rattle.std.specs.List.{find}
use Rattle.std.specs.Map.{lookup}
use Rattle.std.specs.Option.{unwrap_or}
use Rattle.std.specs.Str.{bytes_eq}
use Rattle.std.proofs.lemmas.List.{reverse-append, take_more}
use Rattle.std.proofs.lemmas.Bool.{and_right, and_left, cond-true, cond-false, and_from}
use Rattle.std.specs.Cmp.Lexicographic.{same_text, nat_list_eq_equiv}
use Rattle.indexmap.specs.IndexMap.{insert_entry}
use Rattle.liang_hyph.specs.Greatest.{greatest}
use Rattle.liang_hyph.specs.Places.{value_at, exception_of, places_of_exception}
use Rattle.liang_hyph.specs.Table.{RowList, row, same_bool, is_of_kind, IsMerged, IsListed}
use Rattle.liang_hyph.specs.declared.source.Pattern.{Pattern}
use Rattle.liang_hyph.specs.declared.source.Exception.{Exception}
use Rattle.liang_hyph.proofs.GreatestLemmas.{greatest_of-push}
use Rattle.liang_hyph.proofs.RowLemmas.{lookup-insert_entry}

pub same_bool-true : (a b : Bool) → a ≡ b → same_bool a b ≡ true
same_bool-true true true e = refl
same_bool-true false false e = refl
same_bool-true true false e = absurd (true≢false e)
same_bool-true false true e = absurd (true≢false (sym e))

pub same_bool-false : (a b : Bool) → (a ≡ b → ⊥) → same_bool a b ≡ false
same_bool-false true true e = absurd (e refl)
same_bool-false false false e = absurd (e refl)
same_bool-false true false e = refl
same_bool-false false true e = refl

-- what the rows give under the letters q after a row was put under the letters k
row-insert_entry : (rows : RowList) (k v q : List ℕ) → row (insert_entry bytes_eq rows k v) q ≡ cond (bytes_eq q k) v (row rows q)
row-insert_entry rows k v q = ap (λ r. unwrap_or r []) (lookup-insert_entry nat_list_eq_equiv rows k v q) ∙ by (bytes_eq q k)
  where
    by : (b : Bool) → unwrap_or (cond b (Some v) (lookup (bytes_eq q) rows)) [] ≡ cond b v (row rows q)
    by true = refl
    by false = refl

module _ (patterns : List Pattern) (start end : Bool) (rows : RowList) (p : Pattern) where
  pub IsMerged-skipped : (same_bool p.start start && same_bool p.end end) ≡ false → IsMerged patterns start end rows → IsMerged (patterns ++ p ∷ []) start end rows
  IsMerged-skipped other merged letters at h =
      let push = greatest_of-push (λ p. value_at p.values at h) (is_of_kind start end letters) patterns p in
      let none : is_of_kind start end letters p ≡ false = and_right (bytes_eq letters p.letters) _ other in
      let nothing : cond (is_of_kind start end letters p) (value_at p.values at h) 0 ≡ 0 = cond-false _ _ _ none in
      let before = merged letters at h in
      omega arith

  pub IsMerged-taken : (same_bool p.start start && same_bool p.end end) ≡ true → (both : List ℕ)
      → ((at h : ℕ) → value_at both at h ≡ max (value_at (row rows p.letters) at h) (value_at p.values at h))
      → IsMerged patterns start end rows → IsMerged (patterns ++ p ∷ []) start end (insert_entry bytes_eq rows p.letters both)
  IsMerged-taken kind both greater merged letters at h =
      ap (λ r. value_at r at h) (row-insert_entry rows p.letters both letters)
      ∙ by (bytes_eq letters p.letters) refl
      ∙ sym (greatest_of-push (λ p. value_at p.values at h) (is_of_kind start end letters) patterns p)
    where
      by : (b : Bool) → bytes_eq letters p.letters ≡ b
          → value_at (cond b both (row rows letters)) at h ≡ max (greatest (map (λ p. value_at p.values at h) (filter (is_of_kind start end letters) patterns))) (cond (is_of_kind start end letters p) (value_at p.values at h) 0)
      by true e =
          let same : letters ≡ p.letters = same_text letters p.letters (sym e) in
          let is : is_of_kind start end letters p ≡ true = and_from (bytes_eq letters p.letters) _ e kind in
          let counts : cond (is_of_kind start end letters p) (value_at p.values at h) 0 ≡ value_at p.values at h = cond-true _ _ _ is in
          let there : value_at (row rows letters) at h ≡ value_at (row rows p.letters) at h = ap (λ q. value_at (row rows q) at h) same in
          let before = merged letters at h in
          let now = greater at h in
          omega arith
      by false e =
          let none : is_of_kind start end letters p ≡ false = and_left (bytes_eq letters p.letters) _ e in
          let nothing : cond (is_of_kind start end letters p) (value_at p.values at h) 0 ≡ 0 = cond-false _ _ _ none in
          let before = merged letters at h in
          omega arith

pub IsListed-more : (exceptions : List Exception) (rows : RowList) (e : Exception) → IsListed exceptions rows
    → IsListed (exceptions ++ e ∷ []) (insert_entry bytes_eq rows e.letters e.places)
IsListed-more exceptions rows e listed word =
    lookup-insert_entry nat_list_eq_equiv rows e.letters e.places word
    ∙ by (bytes_eq word e.letters)
    ∙ ap (λ es. places_of_exception (find (λ x. bytes_eq word x.letters) es)) (sym (reverse-append exceptions (e ∷ [])))
  where
    by : (b : Bool) → cond b (Some e.places) (lookup (bytes_eq word) rows) ≡ places_of_exception (cond b (Some e) (exception_of exceptions word))
    by true = refl
    by false = listed word

-- ---- steps of loops

pub IsListed-step : (exceptions : List Exception) (rows rows' : RowList) (i : ℕ) (e : Exception) (letters places : List ℕ)
    → i < length exceptions → e ≡ get_or exceptions i e → letters ≡ e.letters → places ≡ e.places → rows' ≡ insert_entry bytes_eq rows letters places
    → IsListed (take i exceptions) rows → IsListed (take (i + 1) exceptions) rows'
IsListed-step exceptions rows rows' i e letters places l at same_letters same_places put listed =
    let more : take (i + 1) exceptions ≡ take i exceptions ++ e ∷ [] = take_more exceptions i e l ∙ ap (λ x. take i exceptions ++ x ∷ []) (sym at) in
    let same : rows' ≡ insert_entry bytes_eq rows e.letters e.places = put ∙ (λ j. insert_entry bytes_eq rows (same_letters j) (same_places j)) in
    subst (λ es. IsListed es rows') (sym more) (subst (IsListed (take i exceptions ++ e ∷ [])) (sym same) (IsListed-more (take i exceptions) rows e listed))

pub IsMerged-step_taken : (patterns : List Pattern) (start end : Bool) (rows rows' : RowList) (i : ℕ) (p : Pattern) (letters both : List ℕ)
    → i < length patterns → p ≡ get_or patterns i p → (same_bool p.start start && same_bool p.end end) ≡ true → letters ≡ p.letters → rows' ≡ insert_entry bytes_eq rows letters both
    → ((at h : ℕ) → value_at both at h ≡ max (value_at (row rows letters) at h) (value_at p.values at h))
    → IsMerged (take i patterns) start end rows → IsMerged (take (i + 1) patterns) start end rows'
IsMerged-step_taken patterns start end rows rows' i p letters both l at kind same_letters put greater merged =
    let more : take (i + 1) patterns ≡ take i patterns ++ p ∷ [] = take_more patterns i p l ∙ ap (λ x. take i patterns ++ x ∷ []) (sym at) in
    let same : rows' ≡ insert_entry bytes_eq rows p.letters both = put ∙ ap (λ k. insert_entry bytes_eq rows k both) same_letters in
    subst (λ ps. IsMerged ps start end rows') (sym more)
    (subst (IsMerged (take i patterns ++ p ∷ []) start end) (sym same)
    (IsMerged-taken (take i patterns) start end rows p kind both (λ at' h. greater at' h ∙ ap (λ k. max (value_at (row rows k) at' h) (value_at p.values at' h)) same_letters) merged))

pub IsMerged-step_skipped : (patterns : List Pattern) (start end : Bool) (rows : RowList) (i : ℕ) (p : Pattern)
    → i < length patterns → p ≡ get_or patterns i p → (same_bool p.start start && same_bool p.end end) ≡ false
    → IsMerged (take i patterns) start end rows → IsMerged (take (i + 1) patterns) start end rows
IsMerged-step_skipped patterns start end rows i p l at other merged =
    let more : take (i + 1) patterns ≡ take i patterns ++ p ∷ [] = take_more patterns i p l ∙ ap (λ x. take i patterns ++ x ∷ []) (sym at) in
    subst (λ ps. IsMerged ps start end rows) (sym more) (IsMerged-skipped (take i patterns) start end rows p other merged)
