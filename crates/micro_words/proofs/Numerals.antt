-- A numeral is what std's `parse` reads, where the first byte is from 49 on: so no plus and no zero comes first.
--     no_first, low_first     a text that is no numeral by its first byte
--     read, unread            a text that `parse` reads, or doesn't
--     number_bounds           a number that is read is at least 1, and at most the limit
use Rattle.std.proofs.Common.{◌≡◌, ◌∙◌, ◌<◌, ◌≤◌, ◌^◌, ◌+◌, ◌*◌, ℕ, Bool, cond, true, false, refl, sym, ap, subst, arith, List, [], ◌∷◌, get_or, lt-ltb, ltb-true}
use Rattle.std.specs.Prelude.{Some, None, nat_le, slice_get, unwrap_or}
use Rattle.std.specs.List.{list_all}
use Rattle.std.specs.Char.{digit_value}
use Rattle.std.specs.Str.Parse.{AllDigits, IsNumeral, digits_value, digits_value_after, without_leading_plus}
use Rattle.std.proofs.lemmas.Bool.{leb-true, le-leb, lt-leb}
use Rattle.std.proofs.lemmas.Str.Parse.{without_leading_plus_none, digit_from_value}
use Rattle.std.proofs.lemmas.Str.{digit_value_digit}
use Rattle.clap.proofs.WalkLemmas.{both}
use Rattle.micro_words.specs.Numerals.{is_decimal, is_plain_numeral, if_up_to, number_up_to}

digits_pass : (text : List ℕ) → AllDigits 10 text → list_all is_decimal text ≡ true
digits_pass [] h = refl
digits_pass (code ∷ rest) h = rw (lt-ltb (digit_value code) 10 h.0) (digits_pass rest h.1)

digits_from : (text : List ℕ) → list_all is_decimal text ≡ true → AllDigits 10 text
digits_from [] e = tt
digits_from (code ∷ rest) e =
    let parts = both _ _ e in
    (ltb-true _ _ parts.0, digits_from rest parts.1)

first_is : (text : List ℕ) (first : ℕ) → slice_get text 0 ≡ Some first → get_or text 0 0 ≡ first
first_is [] first is = absurd cc
first_is (code ∷ rest) first is = ap (λ o. unwrap_or o 0) is

own_digits : (text : List ℕ) (first : ℕ) → slice_get text 0 ≡ Some first → 49 ≤ first → without_leading_plus text ≡ text
own_digits text first is le =
    let same = first_is text first is in
    without_leading_plus_none text (λ plus. absurd (omega (arith, same, plus, le)))

plain_numeral : (text : List ℕ) (first : ℕ) → slice_get text 0 ≡ Some first → 49 ≤ first → IsNumeral 10 text
    → is_plain_numeral text ≡ true
unfolding is_plain_numeral
plain_numeral [] first is le h = absurd cc
plain_numeral (code ∷ rest) first is le h =
    let same = first_is (code ∷ rest) first is in
    let high : 49 ≤ code = omega (arith, same, le) in
    rw (le-leb 49 code high) (digits_pass (code ∷ rest) h.1)

numeral_from : (text : List ℕ) → is_plain_numeral text ≡ true → IsNumeral 10 text
unfolding is_plain_numeral
numeral_from [] e = absurd cc
numeral_from (code ∷ rest) e = (omega arith, digits_from (code ∷ rest) (both _ _ e).1)

pub no_first : (most : ℕ) (text : List ℕ) → slice_get text 0 ≡ None → None ≡ number_up_to most text
unfolding number_up_to is_plain_numeral
no_first most [] is = refl
no_first most (code ∷ rest) is = absurd cc

pub low_first : (most first : ℕ) (text : List ℕ) → slice_get text 0 ≡ Some first → first < 49 → None ≡ number_up_to most text
unfolding number_up_to is_plain_numeral
low_first most first [] is lt = refl
low_first most first (code ∷ rest) is lt =
    let same = first_is (code ∷ rest) first is in
    let low : code < 49 = omega (arith, same, lt) in
    rw (lt-leb 49 code low) refl

pub read : (most first number : ℕ) (text : List ℕ) → slice_get text 0 ≡ Some first → 49 ≤ first
    → IsNumeral 10 (without_leading_plus text) → digits_value 10 (without_leading_plus text) ≡ number
    → if_up_to most number ≡ number_up_to most text
unfolding number_up_to
read most first number text is le numeral value =
    let own = own_digits text first is le in
    let here : IsNumeral 10 text = subst (IsNumeral 10) own numeral in
    let same : digits_value 10 text ≡ number = ap (digits_value 10) (sym own) ∙ value in
    rw (plain_numeral text first is le here) (ap (if_up_to most) (sym same))

pub unread : (most first : ℕ) (text : List ℕ) → most < 2 ^ 32 → slice_get text 0 ≡ Some first → 49 ≤ first
    → (IsNumeral 10 (without_leading_plus text) × (digits_value 10 (without_leading_plus text) < 2 ^ 32) → ⊥)
    → None ≡ number_up_to most text
unfolding number_up_to
unread most first text few is le refused = by (is_plain_numeral text) (nat_le (digits_value 10 text) most) refl refl
  where
    own : without_leading_plus text ≡ text
    own = own_digits text first is le

    never : IsNumeral 10 text → digits_value 10 text < 2 ^ 32 → ⊥
    never numeral small = refused (
      subst (IsNumeral 10) (sym own) numeral,
      subst (λ (ds : List ℕ). digits_value 10 ds < 2 ^ 32) (sym own) small,
    )

    by : (plain small : Bool) → is_plain_numeral text ≡ plain → nat_le (digits_value 10 text) most ≡ small
        → None ≡ cond plain (cond small (Some (digits_value 10 text)) None) None
    by false small p s = refl
    by true false p s = refl
    by true true p s =
        let bound : digits_value 10 text ≤ most = leb-true _ _ s in
        absurd (never (numeral_from text p) (omega (arith, bound, few)))

grows : (n : ℕ) (digits : List ℕ) → n ≤ digits_value_after 10 n digits
grows n [] = omega arith
grows n (code ∷ rest) =
    let more = grows (n * 10 + digit_value code) rest in
    omega (arith, more)

pub number_bounds : (most number : ℕ) (text : List ℕ) → number_up_to most text ≡ Some number → (1 ≤ number) × (number ≤ most)
unfolding number_up_to is_plain_numeral
number_bounds most number [] e = absurd cc
number_bounds most number (code ∷ rest) e =
    by (is_plain_numeral (code ∷ rest)) (nat_le (digits_value 10 (code ∷ rest)) most) refl refl e
  where
    positive : is_plain_numeral (code ∷ rest) ≡ true → 1 ≤ digits_value 10 (code ∷ rest)
    positive p =
        let parts = both _ _ p in
        let high : 49 ≤ code = leb-true _ _ parts.0 in
        let own = digit_value_digit code (digit_from_value code (digits_from (code ∷ rest) parts.1).0) in
        let all = grows (0 * 10 + digit_value code) rest in
        omega (arith, high, own, all)

    by : (plain small : Bool) → is_plain_numeral (code ∷ rest) ≡ plain → nat_le (digits_value 10 (code ∷ rest)) most ≡ small
        → cond plain (cond small (Some (digits_value 10 (code ∷ rest))) None) None ≡ Some number
        → (1 ≤ number) × (number ≤ most)
    by false small p s e = absurd cc
    by true false p s e = absurd cc
    by true true p s e =
        let is : digits_value 10 (code ∷ rest) ≡ number = ap (λ o. unwrap_or o 0) e in
        let low = positive p in
        let high : digits_value 10 (code ∷ rest) ≤ most = leb-true _ _ s in
        (subst (λ n. 1 ≤ n) is low, subst (λ n. n ≤ most) is high)
