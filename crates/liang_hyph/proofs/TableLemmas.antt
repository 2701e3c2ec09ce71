-- The look-ups in the merged rows give the greatest value over all occurrences of the patterns.
use Rattle.std.proofs.Common.{◌≡◌, ℕ, ◌+◌, ◌-◌, ◌<◌, ◌≤◌, max, Bool, true, false, not, cond, ◌&&◌, ◌||◌, eqb, List, [], ◌∷◌, map, filter, length, drop, refl, sym, ap, ◌∙◌, arith}
use Rattle.std.specs.List.{range_with_len, All, AllByRecursion}
use Rattle.std.specs.Str.{bytes_eq}
use Rattle.std.proofs.lemmas.List.{map-append, length-take, length-drop}
use Rattle.std.proofs.lemmas.List.Elements.{recursion_from_All}
use Rattle.std.proofs.lemmas.Bool.{and_parts, cond-true, cond-false, false_from_ne_true, false≢true}
use Rattle.std.proofs.Math.Nat.{zero-max}
use Rattle.std.specs.Cmp.Lexicographic.{same_text}
use Rattle.liang_hyph.specs.Greatest.{greatest, greatest_below}
use Rattle.liang_hyph.specs.Places.{letters_after, value_at, occurs, occurrences, greatest_value, is_break}
use Rattle.liang_hyph.specs.Table.{RowList, PatternTable, row, row_if, same_bool, is_of_kind, IsMerged, IsListed, IsMadeOf, IsSilentPast, value_of_part, value_read}
use Rattle.liang_hyph.specs.declared.source.Pattern.{Pattern}
use Rattle.liang_hyph.specs.declared.source.Exception.{Exception}
use Rattle.liang_hyph.proofs.GreatestLemmas.{greatest-append, greatest_of-cons, greatest_of_numbers, greatest_below-same, greatest_below-zero, greatest_below-max, greatest_below-one}
use Rattle.liang_hyph.proofs.PlaceLemmas.{value_at-nil, places_within-same}

-- a pattern with these letters, where its marks fit a part that starts or ends the word
abbrev pub fits : List ℕ → Bool → Bool → Pattern → Bool
fits letters starts ends p = bytes_eq letters p.letters && (not p.start || starts) && (not p.end || ends)

-- the greatest value of the patterns that pass a test
abbrev pub greatest_of : (Pattern → Bool) → List Pattern → ℕ → ℕ → ℕ
greatest_of test patterns at h = greatest (map (λ p. value_at p.values at h) (filter test patterns))

-- ---- the four kinds together

abbrev pub four : Bool → Bool → ℕ → ℕ → ℕ → ℕ → ℕ
four starts ends a s e w = max (max (max a (cond starts s 0)) (cond ends e 0)) (cond (starts && ends) w 0)

one_more : (start end m starts ends : Bool) (x a s e w g : ℕ) → four starts ends a s e w ≡ g
    → four starts ends
    (max (cond (m && (same_bool start false && same_bool end false)) x 0) a)
    (max (cond (m && (same_bool start true && same_bool end false)) x 0) s)
    (max (cond (m && (same_bool start false && same_bool end true)) x 0) e)
    (max (cond (m && (same_bool start true && same_bool end true)) x 0) w)
    ≡ max (cond (m && (not start || starts) && (not end || ends)) x 0) g
one_more start end false starts ends x a s e w g h = simp zero-max h
one_more false false true starts ends x a s e w g h = simp zero-max (omega arith)
one_more true false true true ends x a s e w g h = simp zero-max (omega arith)
one_more true false true false ends x a s e w g h = simp zero-max (omega arith)
one_more false true true starts true x a s e w g h = simp zero-max (omega arith)
one_more false true true starts false x a s e w g h = simp zero-max (omega arith)
one_more true true true true true x a s e w g h = simp zero-max (omega arith)
one_more true true true true false x a s e w g h = simp zero-max (omega arith)
one_more true true true false ends x a s e w g h = simp zero-max (omega arith)

kinds_together : (letters : List ℕ) (starts ends : Bool) (at h : ℕ) (patterns : List Pattern)
    → four starts ends
    (greatest_of (is_of_kind false false letters) patterns at h)
    (greatest_of (is_of_kind true false letters) patterns at h)
    (greatest_of (is_of_kind false true letters) patterns at h)
    (greatest_of (is_of_kind true true letters) patterns at h)
    ≡ greatest_of (fits letters starts ends) patterns at h
kinds_together letters true true at h [] = refl
kinds_together letters true false at h [] = refl
kinds_together letters false true at h [] = refl
kinds_together letters false false at h [] = refl
kinds_together letters starts ends at h (p ∷ ps) =
    let f : Pattern → ℕ = λ p. value_at p.values at h in
    let a = greatest_of-cons f (is_of_kind false false letters) p ps in
    let s = greatest_of-cons f (is_of_kind true false letters) p ps in
    let e = greatest_of-cons f (is_of_kind false true letters) p ps in
    let w = greatest_of-cons f (is_of_kind true true letters) p ps in
    let g = greatest_of-cons f (fits letters starts ends) p ps in
    let step = one_more p.start p.end (bytes_eq letters p.letters) starts ends (f p) _ _ _ _ _ (kinds_together letters starts ends at h ps) in
    (λ i. four starts ends (a i) (s i) (e i) (w i)) ∙ step ∙ sym g

record IsMergedTable (patterns : List Pattern) (table : PatternTable) : Type 0 where
  pub anywhere : IsMerged patterns false false table.anywhere
  pub at_start : IsMerged patterns true false table.at_start
  pub at_end : IsMerged patterns false true table.at_end
  pub as_word : IsMerged patterns true true table.as_word

value_at-row_if : (b : Bool) (rows : RowList) (letters : List ℕ) (at h : ℕ) → value_at (row_if b rows letters) at h ≡ cond b (value_at (row rows letters) at h) 0
value_at-row_if true rows letters at h = refl
value_at-row_if false rows letters at h = value_at-nil at h

value_of_part-merged : (patterns : List Pattern) (table : PatternTable) → IsMergedTable patterns table → (word : List ℕ) (at count h : ℕ)
    → value_of_part table word at count h ≡ greatest_of (fits (letters_after word at count) (eqb at 0) (eqb (at + count) (length word))) patterns at h
value_of_part-merged patterns table merged word at count h =
    let letters = letters_after word at count in
    let starts = eqb at 0 in
    let ends = eqb (at + count) (length word) in
    let a = merged.anywhere letters at h in
    let s = value_at-row_if starts table.at_start letters at h ∙ ap (λ v. cond starts v 0) (merged.at_start letters at h) in
    let e = value_at-row_if ends table.at_end letters at h ∙ ap (λ v. cond ends v 0) (merged.at_end letters at h) in
    let w = value_at-row_if (starts && ends) table.as_word letters at h ∙ ap (λ v. cond (starts && ends) v 0) (merged.as_word letters at h) in
    (λ i. max (max (max (a i) (s i)) (e i)) (w i)) ∙ kinds_together letters starts ends at h patterns

-- ---- the parts of a word

length-letters_after : (word : List ℕ) (at count : ℕ) → at + count ≤ length word → length (letters_after word at count) ≡ count
length-letters_after word at count l =
    let t = length-take (at + count - at) (drop at word) in
    let d = length-drop at word in
    omega arith

fits-count : (p : Pattern) (word : List ℕ) (at count : ℕ) → at + count ≤ length word
    → fits (letters_after word at count) (eqb at 0) (eqb (at + count) (length word)) p ≡ true → count ≡ length p.letters
fits-count p word at count l h =
    let outer = and_parts (bytes_eq (letters_after word at count) p.letters && (not p.start || eqb at 0)) _ h in
    let inner = and_parts (bytes_eq (letters_after word at count) p.letters) _ outer.0 in
    sym (length-letters_after word at count l) ∙ ap length (same_text (letters_after word at count) p.letters (sym inner.0))

-- at one place a pattern counts once, for the part that has as many letters
parts_at : (p : Pattern) (word : List ℕ) (at v : ℕ) → at ≤ length word
    → greatest_below (λ count. cond (fits (letters_after word at count) (eqb at 0) (eqb (at + count) (length word)) p) v 0) (length word - at + 1) ≡ cond (occurs p word at) v 0
parts_at p word at v l = by (occurs p word at) refl
  where
    value : ℕ → ℕ
    value count = cond (fits (letters_after word at count) (eqb at 0) (eqb (at + count) (length word)) p) v 0

    at_most : (b : Bool) → cond b v 0 ≤ v
    at_most true = omega arith
    at_most false = omega arith

    by : (b : Bool) → occurs p word at ≡ b → greatest_below (λ count. cond (fits (letters_after word at count) (eqb at 0) (eqb (at + count) (length word)) p) v 0) (length word - at + 1) ≡ cond b v 0
    by true e =
        let outer = and_parts (bytes_eq (letters_after word at (length p.letters)) p.letters && (not p.start || eqb at 0)) _ e in
        let inner = and_parts (bytes_eq (letters_after word at (length p.letters)) p.letters) _ outer.0 in
        let t = length-take (at + length p.letters - at) (drop at word) in
        let d = length-drop at word in
        let long = ap length (same_text (letters_after word at (length p.letters)) p.letters (sym inner.0)) in
        greatest_below-one _ _ (length p.letters) v (omega arith) (cond-true _ v 0 e) (λ j m. at_most _)
    by false e =
        greatest_below-zero _ _ (λ count m.
        cond-false _ v 0 (false_from_ne_true _ (λ t.
        let same = fits-count p word at count (omega arith) t in
        let there : fits (letters_after word at (length p.letters)) (eqb at 0) (eqb (at + length p.letters) (length word)) p ≡ true = ap (λ c. fits (letters_after word at c) (eqb at 0) (eqb (at + c) (length word)) p) (sym same) ∙ t in
        false≢true (sym e ∙ there))))

map-map : {A B C : Type 0} (f : B → C) (g : A → B) (xs : List A) → map f (map g xs) ≡ map (λ x. f (g x)) xs
map-map f g [] = refl
map-map f g (x ∷ xs) = ap (λ ys. f (g x) ∷ ys) (map-map f g xs)

-- what one pattern gives, over all its occurrences and over all parts
one_pattern : (p : Pattern) (word : List ℕ) (h : ℕ)
    → greatest_below (λ at. greatest_below (λ count. cond (fits (letters_after word at count) (eqb at 0) (eqb (at + count) (length word)) p) (value_at p.values at h) 0) (length word - at + 1)) (length word + 1)
    ≡ greatest (map (λ (o : Pattern × ℕ). value_at o.0.values o.1 h) (map (λ at. (p, at)) (filter (occurs p word) (range_with_len 0 (length word + 1)))))
one_pattern p word h =
    greatest_below-same _ (λ at. cond (occurs p word at) (value_at p.values at h) 0) (length word + 1) (λ at l. parts_at p word at (value_at p.values at h) (omega arith))
    ∙ sym (greatest_of_numbers (λ at. value_at p.values at h) (occurs p word) (length word + 1))
    ∙ ap greatest (sym (map-map (λ (o : Pattern × ℕ). value_at o.0.values o.1 h) (λ at. (p, at)) (filter (occurs p word) (range_with_len 0 (length word + 1)))))

abbrev over_parts : List Pattern → List ℕ → ℕ → ℕ
over_parts patterns word h =
    greatest_below (λ at. greatest_below (λ count. greatest_of (fits (letters_after word at count) (eqb at 0) (eqb (at + count) (length word))) patterns at h) (length word - at + 1)) (length word + 1)

over_parts-occurrences : (patterns : List Pattern) (word : List ℕ) (h : ℕ) → over_parts patterns word h ≡ greatest_value patterns word h
over_parts-occurrences [] word h =
    greatest_below-zero _ (length word + 1) (λ at l. greatest_below-zero _ (length word - at + 1) (λ count m. refl))
over_parts-occurrences (p ∷ ps) word h =
    let own : ℕ → ℕ → ℕ = λ at count. cond (fits (letters_after word at count) (eqb at 0) (eqb (at + count) (length word)) p) (value_at p.values at h) 0 in
    let others : ℕ → ℕ → ℕ = λ at count. greatest_of (fits (letters_after word at count) (eqb at 0) (eqb (at + count) (length word))) ps at h in
    let apart = greatest_below-same
    (λ at. greatest_below (λ count. greatest_of (fits (letters_after word at count) (eqb at 0) (eqb (at + count) (length word))) (p ∷ ps) at h) (length word - at + 1))
    (λ at. max (greatest_below (own at) (length word - at + 1)) (greatest_below (others at) (length word - at + 1)))
    (length word + 1)
    (λ at l. greatest_below-same _ (λ count. max (own at count) (others at count)) (length word - at + 1)
    (λ count m. greatest_of-cons (λ (q : Pattern). value_at q.values at h) (fits (letters_after word at count) (eqb at 0) (eqb (at + count) (length word))) p ps)
    ∙ greatest_below-max (own at) (others at) (length word - at + 1)) in
    let split = greatest_below-max (λ at. greatest_below (own at) (length word - at + 1)) (λ at. greatest_below (others at) (length word - at + 1)) (length word + 1) in
    let value : Pattern × ℕ → ℕ = λ o. value_at o.0.values o.1 h in
    let here = map (λ at. (p, at)) (filter (occurs p word) (range_with_len 0 (length word + 1))) in
    apart ∙ split
    ∙ (λ i. max (one_pattern p word h i) (over_parts-occurrences ps word h i))
    ∙ sym (ap greatest (map-append value here (occurrences ps word)) ∙ greatest-append (map value here) (map value (occurrences ps word)))

-- what is read off the merged table is the greatest value over all occurrences
value_read-merged : (patterns : List Pattern) (table : PatternTable) → IsMergedTable patterns table → (word : List ℕ) (h : ℕ)
    → value_read table word h ≡ greatest_value patterns word h
value_read-merged patterns table merged word h =
    greatest_below-same _ _ (length word + 1) (λ at l. greatest_below-same _ _ (length word - at + 1) (λ count m. value_of_part-merged patterns table merged word at count h))
    ∙ over_parts-occurrences patterns word h

pub IsMadeOf-merged : (patterns : List Pattern) (exceptions : List Exception) (table : PatternTable)
    → IsMerged patterns false false table.anywhere → IsMerged patterns true false table.at_start
    → IsMerged patterns false true table.at_end → IsMerged patterns true true table.as_word
    → IsListed exceptions table.exceptions → IsMadeOf table patterns exceptions
IsMadeOf-merged patterns exceptions table a s e w listed word left right =
    places_within-same (length word) left right _ _ (λ h l i.
    is_break (listed word i) (value_read-merged patterns table (record { anywhere = a; at_start = s; at_end = e; as_word = w }) word h i) h)

-- ---- no part is longer than the longest pattern

none_fits : (patterns : List Pattern) (word : List ℕ) (at count h longest : ℕ) → AllByRecursion (λ p. length p.letters ≤ longest) patterns
    → longest < count → at + count ≤ length word
    → greatest_of (fits (letters_after word at count) (eqb at 0) (eqb (at + count) (length word))) patterns at h ≡ 0
none_fits [] word at count h longest all l m = refl
none_fits (p ∷ ps) word at count h longest all l m =
    let cons = greatest_of-cons (λ (q : Pattern). value_at q.values at h) (fits (letters_after word at count) (eqb at 0) (eqb (at + count) (length word))) p ps in
    let long : length p.letters ≤ longest = all.0 in
    let not_p = cond-false (fits (letters_after word at count) (eqb at 0) (eqb (at + count) (length word)) p) (value_at p.values at h) 0 (false_from_ne_true _ (λ t. let same = fits-count p word at count m t in absurd (omega arith))) in
    let rest = none_fits ps word at count h longest all.1 l m in
    omega arith

pub IsSilentPast-merged : (patterns : List Pattern) (table : PatternTable) (longest : ℕ)
    → IsMerged patterns false false table.anywhere → IsMerged patterns true false table.at_start
    → IsMerged patterns false true table.at_end → IsMerged patterns true true table.as_word
    → All (λ p. length p.letters ≤ longest) patterns → IsSilentPast longest table
IsSilentPast-merged patterns table longest a s e w all word at count h l m =
    value_of_part-merged patterns table (record { anywhere = a; at_start = s; at_end = e; as_word = w }) word at count h
    ∙ none_fits patterns word at count h longest (recursion_from_All _ patterns all) l m
