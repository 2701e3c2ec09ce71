-- Where a place stands among those that pass a test.
--     place-at-rank           the place that as many come before
--     place-within            a place that is among them is in the range and passes
use Rattle.std.proofs.Common.{◌≡◌, ℕ, zero, suc, ◌+◌, ◌<◌, ap, ◌∙◌, cond, arith, ◌∷◌, length, filter}
use Rattle.std.specs.Prelude.{Bool, true, false, slice_get, Some}
use Rattle.std.specs.List.{range_with_len}

at-rank : (p : ℕ → Bool) (a n k : ℕ) → k < n → p (a + k) ≡ true
    → slice_get (filter p (range_with_len a n)) (length (filter p (range_with_len a k))) ≡ Some (a + k)
at-rank p a zero k within passes = absurd (omega (arith, within))
at-rank p a (suc n) zero within passes =
    let same : a ≡ a + zero = omega arith in
    let here : p a ≡ true = ap p same ∙ passes in
    rw here (ap Some same)
at-rank p a (suc n) (suc k) within passes =
    let below : k < n = omega (arith, within) in
    let same : a + 1 + k ≡ a + suc k = omega arith in
    by (p a) (at-rank p (a + 1) n k below (ap p same ∙ passes) ∙ ap Some same)
  where
    by : (own : Bool)
        → slice_get (filter p (range_with_len (a + 1) n)) (length (filter p (range_with_len (a + 1) k))) ≡ Some (a + suc k)
        → slice_get (cond own (a ∷ filter p (range_with_len (a + 1) n)) (filter p (range_with_len (a + 1) n)))
        (length (cond own (a ∷ filter p (range_with_len (a + 1) k)) (filter p (range_with_len (a + 1) k)))) ≡ Some (a + suc k)
    by true tail = tail
    by false tail = tail

pub place-at-rank : (p : ℕ → Bool) (n k : ℕ) → k < n → p k ≡ true
    → slice_get (filter p (range_with_len 0 n)) (length (filter p (range_with_len 0 k))) ≡ Some k
place-at-rank p n k within passes =
    let same : 0 + k ≡ k = omega arith in
    at-rank p 0 n k within (ap p same ∙ passes) ∙ ap Some same
