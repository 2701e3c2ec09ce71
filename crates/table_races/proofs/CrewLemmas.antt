-- What the steps of a race keep.
use Rattle.std.proofs.Common.{◌≡◌, ◌≢◌, ℕ, suc, ◌+◌, ◌<◌, ◌≤◌, refl, ap, sym, ◌∙◌, subst, arith, Bool, true, false, cond, List, [], ◌∷◌, ◌++◌, map, length, get_or, ◌-◌, ltb, leb, Option, Some, None, All, Contains}
use Rattle.std.proofs.lemmas.Bool.Decides.{nat_tests}
use Rattle.std.proofs.lemmas.Bool.{false≢true}
use Rattle.std.proofs.lemmas.List.{map-append, append_assoc}
use Rattle.std.proofs.lemmas.List.Elements.{All-same, All-push, Contains-push}
use Rattle.std.proofs.lemmas.List.FromFn.{map-range_with_len_more, length-map-range_with_len, get_or-map-range_with_len}
use Rattle.std.specs.List.{range_with_len}
use Rattle.instance_table.specs.declared.view.Building.{Building}
use Rattle.instance_table.specs.declared.view.View.{View}
use Rattle.instance_table.specs.Seats.{Standing, Sitting, IsSeatOf, HasStored, StoresOne, PublishesIt, DrawsOne}
use Rattle.instance_table.specs.Closing.{IsAlone}
use Rattle.instance_table.specs.Steps.{stored, published, drew, split_off, after_split}
use Rattle.table_races.specs.Crews.{IsIdle, IsFresh, Stays, numbers, numbers_upto}
use Rattle.table_races.specs.declared.crew.Raced.{Raced}

pub stays-after : (u v w : View) → Stays u v → Stays v w → Stays u w
stays-after u v w s t = record {
  number = t.number ∙ s.number;
  made = t.made ∙ s.made;
  joined = t.joined ∙ s.joined;
}

-- one more width is stored
pub store-next : (v w : View) (code : ℕ) → HasStored v.building code → StoresOne v w → HasStored w.building (code + 1)
store-next v w code has (b, is, new) =
    let before : b.stored ≡ code = subst (λ (o : Option Building). HasStored o code) is has in
    subst (λ (x : View). HasStored x.building (code + 1)) (sym new) (ap (λ k. k + 1) before)

pub store-stays : (v w : View) → StoresOne v w → Stays v w
store-stays v w (b, is, new) = record {
  number = ap (λ (x : View). x.number) new;
  made = ap (λ (x : View). x.made) new;
  joined = ap (λ (x : View). x.joined) new;
}

pub store-ended : (v w : View) → StoresOne v w → w.ended ≡ v.ended
store-ended v w (b, is, new) = ap (λ (x : View). x.ended) new

pub publish-free : (v w : View) → PublishesIt v w → w.building ≡ None
publish-free v w (b, is, new) = ap (λ (x : View). x.building) new

pub publish-stays : (v w : View) → PublishesIt v w → Stays v w
publish-stays v w (b, is, new) = record {
  number = ap (λ (x : View). x.number) new;
  made = ap (λ (x : View). x.made) new;
  joined = ap (λ (x : View). x.joined) new;
}

pub publish-ended : (v w : View) → PublishesIt v w → w.ended ≡ v.ended
publish-ended v w (b, is, new) = ap (λ (x : View). x.ended) new

-- a draw leaves a seat going where it answered a number
pub draw-free : (v w : View) (answer : Option ℕ) → DrawsOne v answer w → w.building ≡ v.building
draw-free v w answer is = ap (λ (x : View). x.building) is.view

pub draw-stays : (v w : View) (answer : Option ℕ) → DrawsOne v answer w → Stays v w
draw-stays v w answer is = record {
  number = ap (λ (x : View). x.number) is.view;
  made = ap (λ (x : View). x.made) is.view;
  joined = ap (λ (x : View). x.joined) is.view;
}

none_some : (n : ℕ) → None ≡ Some n → ⊥
none_some n e = absurd (cc)

pub draw-going : (v w : View) (answer : Option ℕ) (n : ℕ) → DrawsOne v answer w → answer ≡ Some n → w.ended ≡ false
draw-going v w answer n is some_of =
    by_test (ltb is.word v.draws) refl (sym is.by_word ∙ some_of)
  where
    by_test : (b : Bool) → ltb is.word v.draws ≡ b → cond b (Some is.word) None ≡ Some n → w.ended ≡ false
    by_test true e h =
        let late : leb v.draws is.word ≡ false = grind (arith, nat_tests) in ap (λ (x : View). x.ended) is.view ∙ late
    by_test false e h = absurd (none_some n h)

-- one seat more
pub more_seats : (t : Standing) (seats more : List Sitting) (s : Sitting) → more ≡ seats ++ s ∷ [] → All (IsFresh t) seats → IsFresh t s
    → All (IsFresh t) more
more_seats t seats more s are each one = All-same (IsFresh t) more (seats ++ s ∷ []) are (All-push (IsFresh t) seats s each one)

pub more_numbers : (seats more : List Sitting) (s : Sitting) (n : ℕ) → more ≡ seats ++ s ∷ [] → numbers seats ≡ numbers_upto n
    → s.view.number ≡ n + 1 → numbers more ≡ numbers_upto (n + 1)
more_numbers seats more s n are before is =
    ap numbers are
    ∙ (map-append (λ (x : Sitting). x.view.number) seats (s ∷ [])
    ∙ (ap (λ ns. ns ++ s.view.number ∷ []) before
    ∙ (ap (λ k. numbers_upto n ++ k ∷ []) is
    ∙ sym (map-range_with_len_more (λ k. k + 1) 0 n n (omega arith)))))

pub one_joined : (before after : List ℕ) (one : Raced) (rest all : List Raced) (whole : List ℕ) → after ≡ before ++ one.seat.view.number ∷ []
    → all ≡ one ∷ rest → before ++ numbers (map (λ (r : Raced). r.seat) all) ≡ whole
    → after ++ numbers (map (λ (r : Raced). r.seat) rest) ≡ whole
one_joined before after one rest all whole is are sum =
    ap (λ ns. ns ++ numbers (map (λ (r : Raced). r.seat) rest)) is
    ∙ (append_assoc before (one.seat.view.number ∷ []) (numbers (map (λ (r : Raced). r.seat) rest))
    ∙ (sym (ap (λ (rs : List Raced). before ++ numbers (map (λ (r : Raced). r.seat) rs)) are) ∙ sum))

-- the numbers of seats that raced are those of the seats before
same_numbers : (seats : List Sitting) (raced : List Raced) → length raced ≡ length seats
    → ((k : ℕ) (d : Raced) (e : Sitting) → k < length seats → (get_or raced k d).seat.view.number ≡ (get_or seats k e).view.number)
    → numbers (map (λ (r : Raced). r.seat) raced) ≡ numbers seats
same_numbers [] [] same each = refl
same_numbers [] (r ∷ rs) same each = absurd (omega arith)
same_numbers (s ∷ ss) [] same each = absurd (omega arith)
same_numbers (s ∷ ss) (r ∷ rs) same each =
    ap (λ n. n ∷ numbers (map (λ (x : Raced). x.seat) rs)) (each 0 r s (omega arith))
    ∙ ap (λ ns. s.view.number ∷ ns) (same_numbers ss rs (omega arith) (λ k d e small. each (suc k) d e (omega arith)))

pub all_joined : (seats : List Sitting) (raced : List Raced) (none joined : List ℕ) (made workers : ℕ) → numbers seats ≡ numbers_upto workers
    → length raced ≡ length seats
    → ((k : ℕ) (d : Raced) (e : Sitting) → k < length seats → (get_or raced k d).seat.view.number ≡ (get_or seats k e).view.number)
    → none ≡ [] → joined ≡ none ++ numbers (map (λ (r : Raced). r.seat) raced) → made ≡ workers + 1
    → (n : ℕ) → 0 < n → n < made → Contains joined n
all_joined seats raced none joined made workers split same each empty is count n some_of small =
    let all : joined ≡ numbers_upto workers =
    is ∙ (ap (λ ns. ns ++ numbers (map (λ (r : Raced). r.seat) raced)) empty ∙ (same_numbers seats raced same each ∙ split)) in
    let long : length joined ≡ workers = ap length all ∙ length-map-range_with_len (λ k. k + 1) 0 workers in (
      n - 1,
      omega arith,
      ap (λ ns. get_or ns (n - 1) n) all
          ∙ (get_or-map-range_with_len (λ k. k + 1) 0 workers (n - 1) (n - 1) n (omega arith) (omega arith) ∙ omega arith),
    )

-- of two seats, the other was joined
pub pair_joined : (before joined : List ℕ) (made number : ℕ) → joined ≡ before ++ number ∷ [] → number ≡ 1 → made ≡ 2
    → (n : ℕ) → 0 < n → n < made → Contains joined n
pair_joined before joined made number is one two n some_of small =
    let same : number ≡ n = omega arith in
    subst (λ (k : ℕ). Contains joined k) same (subst (λ (ns : List ℕ). Contains ns number) (sym is) (Contains-push before number))

pub alone-after : (v w : View) → Stays v w → IsAlone v → IsAlone w
alone-after v w stays alone n some_of small =
    subst (λ (ns : List ℕ). Contains ns n) (sym stays.joined) (alone n some_of (subst (λ (k : ℕ). n < k) stays.made small))
