-- What the program that lists ways rests on.
--     order_is                      the order of nodes by comparisons of unsigned numbers
--     demerits_near, ways_near      the demerits of a small table, and the totals of its ways
--     almost_blind                  how far demerits see classes
use Rattle.std.proofs.Common.{◌≡◌, ℕ, zero, suc, ◌+◌, ◌<◌, ◌≤◌, ◌^◌, ◌-◌, Bool, true, false, cond, not, ◌&&◌, List, [], ◌∷◌, ◌++◌, filter, length, get_or, drop, Option, Some, None, ℤ, pos, neg_ℤ, ◌+ℤ◌, ◌≤ℤ◌, IsTrue, add-one, drop-cons, refl, sym, ap, ◌∙◌, subst, inl, inr, arith}
use Rattle.std.specs.Prelude.{int_le, int_lt, nat_le, ◌==◌, unsigned_abs}
use Rattle.std.specs.List.{find, list_all, All}
use Rattle.std.specs.Cmp.Lexicographic.{slice_cmp}
use Rattle.std.specs.declared.cmp.Ordering.{Ordering}
use Rattle.std.specs.declared.cmp.Ordering.TheVariants.{Less, Equal, Greater}
use Rattle.std.specs.Ordering.{nat_cmp, int_cmp, flip_args, ordering_then, is_lt}
use Rattle.std.proofs.lemmas.Bool.{and_parts, leb-true}
use Rattle.std.proofs.lemmas.Bool.Decides.{nat_tests}
use Rattle.std.proofs.lemmas.List.{drop_all}
use Rattle.std.proofs.lemmas.List.Elements.{All-nil, All-cons}
use Rattle.std.proofs.lemmas.Int.{ints}
use Rattle.line_break.specs.Listing.{first_of_ended, is_better, is_small_amount, is_small, IsNear}
use Rattle.line_break.specs.declared.node.Node.{Node}
use Rattle.line_break.specs.declared.node.Way.{Way}
use Rattle.line_break.specs.declared.table.Line.{Line}
use Rattle.line_break.specs.declared.table.Table.{Table}
use Rattle.line_break.specs.Pass.{Pass, is_open_ended, rank_of_place, order_of_places, order}
use Rattle.line_break.specs.Members.{Among, first_by, first_of_two}
use Rattle.line_break.specs.Ways.{start, records, open_ways, lines_to, ways, awful_bad}
use Rattle.line_break.specs.Best.{preference, end_of}
use Rattle.line_break.specs.Tables.{joins, line_at, badness_of, demerits_of, class_of, far_apart, adjacent, pass_of}
use Rattle.line_break.specs.Laws.{IsAlmostBlind}
use Rattle.line_break.proofs.OrderLemmas.{at_most_abs, at_least_abs, nat_cmp-same, int_le-true}
use Rattle.line_break.proofs.OpenWays.{open_source, ways_bound, ways_low}

up_same : (a b : ℕ) → int_cmp (pos a) (pos b) ≡ nat_cmp a b
up_same a b = grind (arith, nat_tests)

neg_same : (a b : ℕ) → int_cmp (neg_ℤ (pos a)) (neg_ℤ (pos b)) ≡ nat_cmp b a
neg_same zero zero = refl
neg_same zero (suc b) = grind (arith, nat_tests)
neg_same (suc a) zero = grind (arith, nat_tests)
neg_same (suc a) (suc b) = grind (arith, nat_tests)

ranks : (t : Bool) (a b : ℕ) → int_cmp (cond t (pos a) (neg_ℤ (pos a))) (cond t (pos b) (neg_ℤ (pos b))) ≡ cond t (nat_cmp a b) (nat_cmp b a)
ranks true a b = up_same a b
ranks false a b = neg_same a b

pub order_is : (ended : Option ℕ) (x y : Node)
    → ordering_then (ordering_then (nat_cmp x.group y.group) (order_of_places ended x.group x.place y.place)) (nat_cmp x.class y.class) ≡ order ended x y
unfolding order
order_is ended x y = by (nat_cmp x.group y.group) refl
  where
    by : (o : Ordering) → nat_cmp x.group y.group ≡ o
        → ordering_then (ordering_then o (order_of_places ended x.group x.place y.place)) (nat_cmp x.class y.class)
        ≡ ordering_then o (ordering_then (int_cmp (rank_of_place ended x) (rank_of_place ended y)) (nat_cmp x.class y.class))
    by Less e = refl
    by Equal e =
        let g = nat_cmp-same x.group y.group e in
        let rank : ℕ → ℤ = λ k. cond (is_open_ended ended k) (pos y.place) (neg_ℤ (pos y.place)) in
        ap (λ o. ordering_then o (nat_cmp x.class y.class))
        (sym (ranks (is_open_ended ended x.group) x.place y.place) ∙ ap (λ k. int_cmp (rank_of_place ended x) (rank k)) g)
    by Greater e = refl

small_at : (p : Line → Bool) (lines : List Line) → list_all (λ l. is_small_amount l.demerits) lines ≡ true → is_small_amount (demerits_of (find p lines)) ≡ true
small_at p [] e = refl
small_at p (l ∷ ls) e =
    let k = and_parts (is_small_amount l.demerits) (list_all (λ x. is_small_amount x.demerits) ls) e in
    by (p l) k.0 (small_at p ls k.1)
  where
    by : (t : Bool) → is_small_amount l.demerits ≡ true → is_small_amount (demerits_of (find p ls)) ≡ true → is_small_amount (demerits_of (cond t (Some l) (find p ls))) ≡ true
    by true h r = h
    by false h r = r

abbrev pub Within41 : ℤ → Type 0
Within41 d = (neg_ℤ (pos (2 ^ 41)) ≤ℤ d) × (d ≤ℤ pos (2 ^ 41))

pub listed_near : (t : Table) (from group to : ℕ) → IsTrue (is_small t) → (neg_ℤ (pos (2 ^ 40)) ≤ℤ demerits_of (line_at t.lines from group to)) × (demerits_of (line_at t.lines from group to) ≤ℤ pos (2 ^ 40))
listed_near t from group to s =
    let all = (and_parts (nat_le (length t.legal) (2 ^ 16) && is_small_amount t.adjdemerits) (list_all (λ l. is_small_amount l.demerits) t.lines) s).1 in
    let d = demerits_of (line_at t.lines from group to) in
    let k = and_parts (int_le (neg_ℤ (pos (2 ^ 40))) d) (int_le d (pos (2 ^ 40))) (small_at (λ l. joins l from group to) t.lines all) in
    (int_le-true (neg_ℤ (pos (2 ^ 40))) d k.0, int_le-true d (pos (2 ^ 40)) k.1)

pub adjacent_near : (t : Table) (c d : ℕ) → IsTrue (is_small t) → (neg_ℤ (pos (2 ^ 40)) ≤ℤ adjacent t.adjdemerits c d) × (adjacent t.adjdemerits c d ≤ℤ pos (2 ^ 40))
adjacent_near t c d s = by (far_apart c d)
  where
    small : IsTrue (is_small_amount t.adjdemerits)
    small = (and_parts (nat_le (length t.legal) (2 ^ 16)) (is_small_amount t.adjdemerits) (and_parts (nat_le (length t.legal) (2 ^ 16) && is_small_amount t.adjdemerits) (list_all (λ l. is_small_amount l.demerits) t.lines) s).0).1

    by : (u : Bool) → (neg_ℤ (pos (2 ^ 40)) ≤ℤ cond u t.adjdemerits (pos 0)) × (cond u t.adjdemerits (pos 0) ≤ℤ pos (2 ^ 40))
    by true =
        let k = and_parts (int_le (neg_ℤ (pos (2 ^ 40))) t.adjdemerits) (int_le t.adjdemerits (pos (2 ^ 40))) small in
        (int_le-true (neg_ℤ (pos (2 ^ 40))) t.adjdemerits k.0, int_le-true t.adjdemerits (pos (2 ^ 40)) k.1)
    by false = (omega (arith, ints), omega (arith, ints))

pub demerits_near : (t : Table) (x : Node) (to : ℕ) → IsTrue (is_small t) → Within41 ((pass_of t).demerits x to)
unfolding pass_of
demerits_near t x to s =
    let l = line_at t.lines x.place x.group to in
    let a = listed_near t x.place x.group to s in
    let b = adjacent_near t x.class (class_of l) s in
    (omega (arith, ints), omega (arith, ints))

pub few_places : (t : Table) → IsTrue (is_small t) → length t.legal ≤ 2 ^ 16
few_places t s = leb-true (length t.legal) (2 ^ 16) (and_parts (nat_le (length t.legal) (2 ^ 16)) (is_small_amount t.adjdemerits) (and_parts (nat_le (length t.legal) (2 ^ 16) && is_small_amount t.adjdemerits) (list_all (λ l. is_small_amount l.demerits) t.lines) s).0).0

pub records_from : (t : Table) (to : ℕ) (w : Way) (bad threshold sum : ℤ)
    → bad ≡ pos (badness_of (line_at t.lines w.last.place w.last.group to)) → threshold ≡ t.threshold → sum ≡ w.total +ℤ (pass_of t).demerits w.last to
    → (int_le bad threshold && int_lt sum (pos awful_bad)) ≡ records (pass_of t) to w
unfolding pass_of records
records_from t to w bad threshold sum e f g = rw (e, f, g) refl

pub any_node : Node
any_node = record { place = 0; group = 0; class = 0 }

module _ {X : Type 0} (R : X → X → Ordering) where
  pub compared_more : (xs ys : List X) (i : ℕ) (d : X) → i < length xs → i < length ys
      → slice_cmp R (drop i xs) (drop i ys) ≡ ordering_then (R (get_or xs i d) (get_or ys i d)) (slice_cmp R (drop (i + 1) xs) (drop (i + 1) ys))
  compared_more xs ys i d h k = rw (add-one, drop-cons xs i d, drop-cons ys i d) refl

  pub compared_short : (xs ys : List X) (i : ℕ) (d : X) → i < length xs → length ys ≤ i → slice_cmp R (drop i xs) (drop i ys) ≡ Greater
  compared_short xs ys i d h k = rw (drop-cons xs i d, drop_all i ys k) refl

  pub compared_less : (xs ys : List X) (i : ℕ) (d : X) → length xs ≤ i → i < length ys → slice_cmp R (drop i xs) (drop i ys) ≡ Less
  compared_less xs ys i d h k = rw (drop_all i xs h, drop-cons ys i d) refl

  pub compared_same : (xs ys : List X) (i : ℕ) → length xs ≤ i → length ys ≤ i → slice_cmp R (drop i xs) (drop i ys) ≡ Equal
  compared_same xs ys i h k = rw (drop_all i xs h, drop_all i ys k) refl

then_assoc : (a b c : Ordering) → ordering_then (ordering_then a b) c ≡ ordering_then a (ordering_then b c)
then_assoc Less b c = refl
then_assoc Equal b c = refl
then_assoc Greater b c = refl

pub preference_is : (ended : Option ℕ) (v w : Way)
    → ordering_then (ordering_then (ordering_then (int_cmp v.total w.total) (nat_cmp v.last.group w.last.group)) (nat_cmp v.last.class w.last.class)) (slice_cmp (flip_args (order ended)) v.earlier w.earlier)
    ≡ preference ended v w
unfolding preference
preference_is ended v w =
    let t = int_cmp v.total w.total in
    let g = nat_cmp v.last.group w.last.group in
    let c = nat_cmp v.last.class w.last.class in
    let b = slice_cmp (flip_args (order ended)) v.earlier w.earlier in
    then_assoc (ordering_then t g) c b ∙ then_assoc t g (ordering_then c b)

pub line_near : (t : Table) (from group to : ℕ) (l : Option Line) (d : ℤ) → IsTrue (is_small t) → l ≡ line_at t.lines from group to → d ≡ demerits_of l
    → (neg_ℤ (pos (2 ^ 40)) ≤ℤ d) × (d ≤ℤ pos (2 ^ 40))
line_near t from group to l d s e f =
    let h = listed_near t from group to s in
    let k = f ∙ ap demerits_of e in
    (omega (arith, ints), omega (arith, ints))

All-from_among : {X : Type 0} (P : X → Type 0) (xs : List X) → ((x : X) → Among xs x → P x) → All P xs
All-from_among P [] h = All-nil P
All-from_among P (x ∷ xs) h = All-cons P x xs (h x (inl refl)) (All-from_among P xs (λ y m. h y (inr m)))

pub way_near : (t : Table) (place : ℕ) → IsTrue (is_small t) → place ≤ 2 ^ 16 → (w : Way) → Among (ways (pass_of t) place) w → IsNear w
way_near t place s few w m =
    let l = ways_low (pass_of t) (2 ^ 41) (λ x to. (demerits_near t x to s).0) place w m in
    let h = ways_bound (pass_of t) place w m in
    record { low = omega (arith, ints); high = omega (arith, ints); group = omega arith }

pub ways_near : (t : Table) (place : ℕ) → IsTrue (is_small t) → place ≤ 2 ^ 16 → All (λ v. IsNear v) (ways (pass_of t) place)
ways_near t place s few = All-from_among (λ v. IsNear v) (ways (pass_of t) place) (way_near t place s few)

pub open_near : (t : Table) (to place : ℕ) → IsTrue (is_small t) → place ≤ 2 ^ 16 → All (λ v. IsNear v) (open_ways (pass_of t) to (ways (pass_of t) place))
open_near t to place s few =
    All-from_among (λ v. IsNear v) (open_ways (pass_of t) to (ways (pass_of t) place))
    (λ w m. way_near t place s few w (open_source (pass_of t) to (ways (pass_of t) place) w m))

pub ways_more : (q : Pass) (place : ℕ) → ways q (place + 1) ≡ ways q place ++ lines_to q (place + 1) (open_ways q (place + 1) (ways q place))
unfolding ways
ways_more q place = rw add-one refl

pub ways_none : (q : Pass) → ways q 0 ≡ start q ∷ []
unfolding ways
ways_none q = refl

-- one more way in front of the rest
pub first_more : (q : Pass) (ws : List Way) (i : ℕ) (w : Way) → i < length ws → w ≡ get_or ws i w
    → first_of_ended q (drop i ws) ≡ cond ((w.last.place == end_of q) && is_better q.open_ended (first_of_ended q (drop (i + 1) ws)) w) (Some w) (first_of_ended q (drop (i + 1) ws))
first_more q ws i w h e =
    let one : drop i ws ≡ w ∷ drop (i + 1) ws = drop-cons ws i w h ∙ (ap (λ v. v ∷ drop (suc i) ws) (sym e) ∙ ap (λ k. w ∷ drop k ws) (sym (add-one i))) in
    ap (first_of_ended q) one ∙ by (w.last.place == end_of q) (first_of_ended q (drop (i + 1) ws)) refl
  where
    pick : (t : Bool) (y : Way) → Some (cond t y w) ≡ cond (not t) (Some w) (Some y)
    pick true y = refl
    pick false y = refl

    rest : (o : Option Way) → Some (first_of_two (preference q.open_ended) w o) ≡ cond (is_better q.open_ended o w) (Some w) o
    rest None = refl
    rest (Some y) = pick (is_lt (preference q.open_ended y w)) y

    by : (t : Bool) (o : Option Way) → first_of_ended q (drop (i + 1) ws) ≡ o
        → first_by (preference q.open_ended) (cond t (w ∷ filter (λ v. v.last.place == end_of q) (drop (i + 1) ws)) (filter (λ v. v.last.place == end_of q) (drop (i + 1) ws)))
        ≡ cond (t && is_better q.open_ended o w) (Some w) o
    by true o k = ap (λ x. Some (first_of_two (preference q.open_ended) w x)) k ∙ rest o
    by false o k = k

pub first_back : (q : Pass) (ws : List Way) (back : ℕ) (w : Way) (found : Option Way) → back < length ws → w ≡ get_or ws (length ws - 1 - back) w
    → found ≡ first_of_ended q (drop (length ws - back) ws)
    → cond ((w.last.place == end_of q) && is_better q.open_ended found w) (Some w) found ≡ first_of_ended q (drop (length ws - (back + 1)) ws)
first_back q ws back w found h e f =
    let i = length ws - 1 - back in
    let within : i < length ws = omega arith in
    let after : i + 1 ≡ length ws - back = omega arith in
    let here : i ≡ length ws - (back + 1) = omega arith in
    let rest : first_of_ended q (drop (i + 1) ws) ≡ found = ap (λ k. first_of_ended q (drop k ws)) after ∙ sym f in
    ap (λ o. cond ((w.last.place == end_of q) && is_better q.open_ended o w) (Some w) o) (sym rest)
    ∙ (sym (first_more q ws i w within e) ∙ ap (λ k. first_of_ended q (drop k ws)) here)

adjacent_alike : (a d : ℤ) (s t : Bool) → (d +ℤ cond s a (pos 0)) ≤ℤ ((d +ℤ cond t a (pos 0)) +ℤ pos (unsigned_abs a))
adjacent_alike a d s t = by s t
  where
    by : (s t : Bool) → (d +ℤ cond s a (pos 0)) ≤ℤ ((d +ℤ cond t a (pos 0)) +ℤ pos (unsigned_abs a))
    by true true = let u = at_most_abs a in let v = at_least_abs a in omega (arith, ints)
    by true false = let u = at_most_abs a in omega (arith, ints)
    by false true = let v = at_least_abs a in omega (arith, ints)
    by false false = let u = at_most_abs a in let v = at_least_abs a in omega (arith, ints)

-- Only the term of adjdemerits sees the class of the line before.
pub almost_blind : (t : Table) → IsAlmostBlind (pass_of t)
unfolding pass_of
almost_blind t x y to p g =
    let l : ℕ → ℕ → Option Line = λ place group. line_at t.lines place group to in
    let same : l x.place x.group ≡ l y.place y.group = ap (λ k. l k x.group) p ∙ ap (l y.place) g in
    subst (λ m. (demerits_of (l x.place x.group) +ℤ adjacent t.adjdemerits x.class (class_of (l x.place x.group))) ≤ℤ ((demerits_of m +ℤ adjacent t.adjdemerits y.class (class_of m)) +ℤ pos (unsigned_abs t.adjdemerits))) same
    (adjacent_alike t.adjdemerits (demerits_of (l x.place x.group)) (far_apart x.class (class_of (l x.place x.group))) (far_apart y.class (class_of (l x.place x.group))))
