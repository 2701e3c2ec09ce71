-- The numbers of the seats of a crew.
--     more_numbers     one more seat is split off
--     one_joined       one more seat is joined
--     all_joined       when all were joined, seat 0 is alone
use Rattle.std.proofs.Common.{◌≡◌, ℕ, suc, ◌+◌, ◌<◌, ◌-◌, refl, ap, sym, ◌∙◌, arith, List, [], ◌∷◌, ◌++◌, length, get_or, Contains}
use Rattle.std.proofs.lemmas.List.{map-append, append_assoc}
use Rattle.std.proofs.lemmas.List.FromFn.{map-range_with_len_more, length-map-range_with_len, get_or-map-range_with_len}
use Rattle.instance_table.specs.Seats.{Sitting}
use Rattle.para_threads.specs.declared.done.Work.{Work}
use Rattle.para_threads.specs.Crews.{numbers, numbers_upto, seats_of}

pub more_numbers : (seats more : List Sitting) (s : Sitting) (n : ℕ) → more ≡ seats ++ s ∷ [] → numbers seats ≡ numbers_upto n
    → s.view.number ≡ n + 1 → numbers more ≡ numbers_upto (n + 1)
more_numbers seats more s n are before is =
    ap numbers are
    ∙ (map-append (λ (x : Sitting). x.view.number) seats (s ∷ [])
    ∙ (ap (λ ns. ns ++ s.view.number ∷ []) before
    ∙ (ap (λ k. numbers_upto n ++ k ∷ []) is
    ∙ sym (map-range_with_len_more (λ k. k + 1) 0 n n (omega arith)))))

pub one_joined : (before after : List ℕ) (one : Work) (rest all : List Work) (whole : List ℕ) → after ≡ before ++ one.seat.view.number ∷ []
    → all ≡ one ∷ rest → before ++ numbers (seats_of all) ≡ whole
    → after ++ numbers (seats_of rest) ≡ whole
one_joined before after one rest all whole is are sum =
    ap (λ ns. ns ++ numbers (seats_of rest)) is
    ∙ (append_assoc before (one.seat.view.number ∷ []) (numbers (seats_of rest))
    ∙ (sym (ap (λ (rs : List Work). before ++ numbers (seats_of rs)) are) ∙ sum))

-- the numbers of seats that worked are those of the seats before
same_numbers : (seats : List Sitting) (works : List Work) → length works ≡ length seats
    → ((k : ℕ) (d : Work) (e : Sitting) → k < length seats → (get_or works k d).seat.view.number ≡ (get_or seats k e).view.number)
    → numbers (seats_of works) ≡ numbers seats
same_numbers [] [] same each = refl
same_numbers [] (r ∷ rs) same each = absurd (omega arith)
same_numbers (s ∷ ss) [] same each = absurd (omega arith)
same_numbers (s ∷ ss) (r ∷ rs) same each =
    ap (λ n. n ∷ numbers (seats_of rs)) (each 0 r s (omega arith))
    ∙ ap (λ ns. s.view.number ∷ ns) (same_numbers ss rs (omega arith) (λ k d e small. each (suc k) d e (omega arith)))

pub all_joined : (seats : List Sitting) (works : List Work) (none joined : List ℕ) (made workers : ℕ) → numbers seats ≡ numbers_upto workers
    → length works ≡ length seats
    → ((k : ℕ) (d : Work) (e : Sitting) → k < length seats → (get_or works k d).seat.view.number ≡ (get_or seats k e).view.number)
    → none ≡ [] → joined ≡ none ++ numbers (seats_of works) → made ≡ workers + 1
    → (n : ℕ) → 0 < n → n < made → Contains joined n
all_joined seats works none joined made workers split same each empty is count n some_of small =
    let all : joined ≡ numbers_upto workers =
    is ∙ (ap (λ ns. ns ++ numbers (seats_of works)) empty ∙ (same_numbers seats works same each ∙ split)) in
    let long : length joined ≡ workers = ap length all ∙ length-map-range_with_len (λ k. k + 1) 0 workers in (
      n - 1,
      omega arith,
      ap (λ ns. get_or ns (n - 1) n) all
          ∙ (get_or-map-range_with_len (λ k. k + 1) 0 workers (n - 1) (n - 1) n (omega arith) (omega arith) ∙ omega arith),
    )
