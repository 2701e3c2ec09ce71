-- A table without rows has no places.
--     silent-table    of five empty lists
use Rattle.std.proofs.Common.{◌≡◌, ℕ, ◌+◌, ◌-◌, ◌<◌, ◌%◌, ◌&&◌, max, ℤ, Bool, true, false, cond, leb, eqb, List, [], ◌∷◌, filter, length, refl, ap, ◌∙◌}
use Rattle.std.specs.List.{range_with_len}
use Rattle.std.specs.Map.{lookup}
use Rattle.std.specs.Str.{bytes_eq}
use Rattle.liang_hyph.specs.Greatest.{greatest_below}
use Rattle.liang_hyph.specs.Places.{letters_after, margin, value_at, is_break, places_within}
use Rattle.liang_hyph.specs.Table.{PatternTable, IsSilent, places_read, row_if, value_of_part, value_read}
use Rattle.liang_hyph.proofs.GreatestLemmas.{greatest_below-zero}
use Rattle.liang_hyph.proofs.PlaceLemmas.{value_at-nil, places_within-same}

no_table : PatternTable
no_table = record { anywhere = []; at_start = []; at_end = []; as_word = []; exceptions = [] }

value_if : (fits : Bool) (letters : List ℕ) (at h : ℕ) → value_at (row_if fits [] letters) at h ≡ 0
value_if true letters at h = value_at-nil at h
value_if false letters at h = value_at-nil at h

part : (word : List ℕ) (at count h : ℕ) → value_of_part no_table word at count h ≡ 0
unfolding no_table
part word at count h =
    let letters = letters_after word at count in
    (λ i. max (max (max (value_at-nil at h i)
    (value_if (eqb at 0) letters at h i))
    (value_if (eqb (at + count) (length word)) letters at h i))
    (value_if (eqb at 0 && eqb (at + count) (length word)) letters at h i))

value : (word : List ℕ) (h : ℕ) → value_read no_table word h ≡ 0
value word h =
    greatest_below-zero _ _ (λ at l. greatest_below-zero _ _ (λ count m. part word at count h))

no_filter : {X : Type 0} (p : X → Bool) (xs : List X) → ((x : X) → p x ≡ false) → filter p xs ≡ []
no_filter p [] fails = refl
no_filter p (x ∷ xs) fails = ap (λ b. cond b (x ∷ filter p xs) (filter p xs)) (fails x) ∙ no_filter p xs fails

no_and : (a : Bool) → (a && false) ≡ false
no_and true = refl
no_and false = refl

no_places : (len : ℕ) (left right : ℤ) → places_within len left right (λ h. false) ≡ []
no_places len left right =
    no_filter _ (range_with_len 0 (len + 1)) (λ h. no_and (leb (margin left) h && leb (h + margin right) len))

silent : IsSilent no_table
unfolding no_table
silent word left right =
    places_within-same (length word) left right _ (λ h. false) (λ h l. ap (λ v. eqb (v % 2) 1) (value word h))
    ∙ no_places (length word) left right

pub silent-table : (table : PatternTable) → table.anywhere ≡ [] → table.at_start ≡ [] → table.at_end ≡ [] → table.as_word ≡ []
    → table.exceptions ≡ [] → IsSilent table
unfolding no_table
silent-table table a s e w x word left right =
    (λ i. places_read (record { anywhere = a i; at_start = s i; at_end = e i; as_word = w i; exceptions = x i }) word left right)
    ∙ silent word left right
