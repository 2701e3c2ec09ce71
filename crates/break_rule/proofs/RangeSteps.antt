-- Lists over the first so many numbers, one number longer.
--     filter_step             those that pass a test
--     filter_takes            the same where the last one passes
--     filter_leaves           and where it doesn't
--     map_step                what each of them gives
use Rattle.std.proofs.Common.{◌≡◌, ℕ, ◌+◌, ap, sym, ◌∙◌, cond, arith, Bool, true, false, List, ◌∷◌, [], ◌++◌, map, filter}
use Rattle.std.specs.List.{range_with_len}
use Rattle.std.proofs.lemmas.List.{map-id, append-nil}
use Rattle.std.proofs.lemmas.List.FromFn.{map-range_with_len_more, filter_of_map_range_with_len_more}

pub filter_step : (p : ℕ → Bool) (n : ℕ)
    → filter p (range_with_len 0 (n + 1)) ≡ filter p (range_with_len 0 n) ++ cond (p n) (n ∷ []) []
filter_step p n =
    let last : 0 + n ≡ n = omega arith in
    ap (filter p) (sym (map-id (range_with_len 0 (n + 1))))
    ∙ filter_of_map_range_with_len_more p (λ x. x) 0 n n last
    ∙ ap (λ (numbers : List ℕ). filter p numbers ++ cond (p n) (n ∷ []) []) (map-id (range_with_len 0 n))

pub filter_takes : (p : ℕ → Bool) (n : ℕ) (so_far next : List ℕ) → so_far ≡ filter p (range_with_len 0 n) → p n ≡ true
    → next ≡ so_far ++ n ∷ [] → next ≡ filter p (range_with_len 0 (n + 1))
filter_takes p n so_far next is passes more =
    more
    ∙ ap (λ (front : List ℕ). front ++ n ∷ []) is
    ∙ ap (λ (own : Bool). filter p (range_with_len 0 n) ++ cond own (n ∷ []) []) (sym passes)
    ∙ sym (filter_step p n)

pub filter_leaves : (p : ℕ → Bool) (n : ℕ) (so_far : List ℕ) → so_far ≡ filter p (range_with_len 0 n) → p n ≡ false
    → so_far ≡ filter p (range_with_len 0 (n + 1))
filter_leaves p n so_far is fails =
    is
    ∙ sym (append-nil (filter p (range_with_len 0 n)))
    ∙ ap (λ (own : Bool). filter p (range_with_len 0 n) ++ cond own (n ∷ []) []) (sym fails)
    ∙ sym (filter_step p n)

pub map_step : {X : Type 0} (f : ℕ → X) (n : ℕ) → map f (range_with_len 0 (n + 1)) ≡ map f (range_with_len 0 n) ++ f n ∷ []
map_step f n =
    let last : 0 + n ≡ n = omega arith in
    map-range_with_len_more f 0 n n last
