-- The order of nodes and the preference among ways.
--     abs-up, abs-down, at_most_abs, at_least_abs                the absolute value
--     int_le-true, -false, int_lt-true, le-int_le, lt-int_lt     tests of signed numbers
--     order_total, order_same                 the order of nodes is total, and ties equal nodes only
--     preference_total, way_same              so does the preference, at one place
--     preference_at_node                      two ways at one node compare by their totals, and then by what is before
--     preference-extended                     a further line from one node changes nothing
--     preferred_total, lower_preferred        what the preference says of totals
use Rattle.std.proofs.Common.{◌≡◌, ℕ, Bool, true, false, cond, List, [], ◌∷◌, Option, ℤ, pos, neg_ℤ, ◌+ℤ◌, ◌<◌, ◌≤ℤ◌, ◌<ℤ◌, refl, sym, ap, ◌∙◌, subst, arith, negsuc}
use Rattle.std.specs.Prelude.{int_le, int_lt, unsigned_abs}
use Rattle.std.specs.Cmp.{IsTotalOrder}
use Rattle.std.specs.Cmp.Lexicographic.{slice_cmp}
use Rattle.std.specs.declared.cmp.Ordering.{Ordering}
use Rattle.std.specs.declared.cmp.Ordering.TheVariants.{Less, Equal, Greater}
use Rattle.std.specs.Ordering.{MatchOrdering, nat_cmp, int_cmp, flip_args, ordering_then, is_gt}
use Rattle.std.proofs.lemmas.Bool.{false≢true}
use Rattle.std.proofs.lemmas.Int.{ints}
use Rattle.std.proofs.lemmas.Cmp.{nat_cmp_total, int_cmp_total, on_total, then_total, back_total, lists_total, tied_itself, ranked, int_ranked}
use Rattle.line_break.specs.declared.node.Node.{Node}
use Rattle.line_break.specs.declared.node.Way.{Way}
use Rattle.line_break.specs.Pass.{Pass, is_open_ended, rank_of_place, next_group, order}
use Rattle.line_break.specs.Ways.{extended}
use Rattle.line_break.specs.Best.{preference}

pub abs-up : (z : ℤ) → pos 0 ≤ℤ z → pos (unsigned_abs z) ≡ z
abs-up (pos n) h = refl
abs-up (negsuc n) h = absurd (omega (arith, ints))

pub abs-down : (z : ℤ) → z ≤ℤ pos 0 → pos (unsigned_abs z) ≡ neg_ℤ z
abs-down (pos n) h = let e : n ≡ 0 = omega (arith, ints) in rw e refl
abs-down (negsuc n) h = refl

pub at_most_abs : (z : ℤ) → z ≤ℤ pos (unsigned_abs z)
at_most_abs (pos n) = omega (arith, ints)
at_most_abs (negsuc n) = omega (arith, ints)

pub at_least_abs : (z : ℤ) → neg_ℤ z ≤ℤ pos (unsigned_abs z)
at_least_abs (pos n) = omega (arith, ints)
at_least_abs (negsuc n) = omega (arith, ints)

pub int_le-true : (a b : ℤ) → int_le a b ≡ true → a ≤ℤ b
int_le-true a b e = grind (arith, ints)

pub int_le-false : (a b : ℤ) → int_le a b ≡ false → b <ℤ a
int_le-false a b e = grind (arith, ints)

pub int_lt-true : (a b : ℤ) → int_lt a b ≡ true → a <ℤ b
int_lt-true a b e = grind (arith, ints)

pub int_lt-false : (a b : ℤ) → int_lt a b ≡ false → b ≤ℤ a
int_lt-false a b e = grind (arith, ints)

pub le-int_le : (a b : ℤ) → a ≤ℤ b → int_le a b ≡ true
le-int_le a b h = grind (arith, ints)

pub lt-int_lt : (a b : ℤ) → a <ℤ b → int_lt a b ≡ true
lt-int_lt a b h = grind (arith, ints)

pub int_cmp-less : (a b : ℤ) → a <ℤ b → int_cmp a b ≡ Less
int_cmp-less a b h = rw (lt-int_lt a b h) refl

pub int_cmp-same : (a b : ℤ) → int_cmp a b ≡ Equal → a ≡ b
int_cmp-same a b e = subst (λ o. MatchOrdering o (a <ℤ b) (a ≡ b) (b <ℤ a)) e (int_ranked a b (int_cmp a b) refl)

pub nat_cmp-same : (a b : ℕ) → nat_cmp a b ≡ Equal → a ≡ b
nat_cmp-same a b e = subst (λ o. MatchOrdering o (a < b) (a ≡ b) (b < a)) e (ranked a b (nat_cmp a b) refl)

pub nat_cmp-tied : (a b : ℕ) → a ≡ b → nat_cmp a b ≡ Equal
nat_cmp-tied a b e = subst (λ z. nat_cmp a z ≡ Equal) e (tied_itself nat_cmp_total a)

pub ge-int_lt : (a b : ℤ) → b ≤ℤ a → int_lt a b ≡ false
ge-int_lt a b h = grind (arith, ints)

int_lt-added : (a b d : ℤ) → int_lt (a +ℤ d) (b +ℤ d) ≡ int_lt a b
int_lt-added a b d = by (int_lt a b) refl
  where
    by : (t : Bool) → int_lt a b ≡ t → int_lt (a +ℤ d) (b +ℤ d) ≡ t
    by true e = let h = int_lt-true a b e in lt-int_lt (a +ℤ d) (b +ℤ d) (omega (arith, ints))
    by false e = let h = int_lt-false a b e in ge-int_lt (a +ℤ d) (b +ℤ d) (omega (arith, ints))

pub int_cmp-tied : (a b : ℤ) → a ≡ b → int_cmp a b ≡ Equal
int_cmp-tied a b e = subst (λ z. int_cmp a z ≡ Equal) e (tied_itself int_cmp_total a)

-- adding the same to both changes no comparison
pub int_cmp-added : (a b d : ℤ) → int_cmp (a +ℤ d) (b +ℤ d) ≡ int_cmp a b
int_cmp-added a b d = rw (int_lt-added a b d, int_lt-added b a d) refl

pub then_equal : (a b : Ordering) → ordering_then a b ≡ Equal → (a ≡ Equal) × (b ≡ Equal)
then_equal Less b e = cc
then_equal Equal b e = (refl, e)
then_equal Greater b e = cc

then_middle : (a b c d : Ordering) → b ≡ Equal → c ≡ Equal → ordering_then a (ordering_then b (ordering_then c d)) ≡ ordering_then a d
then_middle a b c d e f = rw (e, f) refl

module _ (ended : Option ℕ) where
  pub order_total : IsTotalOrder (order ended)
  unfolding order
  order_total = then_total (on_total (λ (x : Node). x.group) nat_cmp_total) (then_total (on_total (rank_of_place ended) int_cmp_total) (on_total (λ (x : Node). x.class) nat_cmp_total))

  pub preference_total : IsTotalOrder (preference ended)
  unfolding preference
  preference_total =
      then_total (on_total (λ (w : Way). w.total) int_cmp_total)
      (then_total (on_total (λ (w : Way). w.last.group) nat_cmp_total)
      (then_total (on_total (λ (w : Way). w.last.class) nat_cmp_total)
      (on_total (λ (w : Way). w.earlier) (lists_total (back_total order_total)))))

node_same : (x y : Node) → x.place ≡ y.place → x.group ≡ y.group → x.class ≡ y.class → x ≡ y
node_same x y p g c =
    let made : ℕ → ℕ → ℕ → Node = λ place group class. record { place = place; group = group; class = class } in
    ap (λ k. made k x.group x.class) p ∙ (ap (λ k. made y.place k x.class) g ∙ ap (made y.place y.group) c)

same_place : (b : Bool) (m n : ℕ) → cond b (pos m) (neg_ℤ (pos m)) ≡ cond b (pos n) (neg_ℤ (pos n)) → m ≡ n
same_place true m n e = omega (arith, ints)
same_place false m n e = omega (arith, ints)

rank_same : (ended : Option ℕ) (x y : Node) → x.group ≡ y.group → rank_of_place ended x ≡ rank_of_place ended y → x.place ≡ y.place
rank_same ended x y g e =
    same_place (is_open_ended ended x.group) x.place y.place
    (e ∙ ap (λ k. cond (is_open_ended ended k) (pos y.place) (neg_ℤ (pos y.place))) (sym g))

module _ (ended : Option ℕ) where
  pub order_same : (x y : Node) → order ended x y ≡ Equal → x ≡ y
  unfolding order
  order_same x y e =
      let a = then_equal (nat_cmp x.group y.group) _ e in
      let b = then_equal (int_cmp (rank_of_place ended x) (rank_of_place ended y)) _ a.1 in
      let g = nat_cmp-same x.group y.group a.0 in
      node_same x y (rank_same ended x y g (int_cmp-same _ _ b.0)) g (nat_cmp-same x.class y.class b.1)

  nodes_same : (xs ys : List Node) → slice_cmp (flip_args (order ended)) xs ys ≡ Equal → xs ≡ ys
  nodes_same [] [] e = refl
  nodes_same [] (y ∷ ys) e = cc
  nodes_same (x ∷ xs) [] e = cc
  nodes_same (x ∷ xs) (y ∷ ys) e =
      let a = then_equal (order ended y x) _ e in
      let here = order_same y x a.0 in
      let rest = nodes_same xs ys a.1 in
      cc

  pub way_same : (v w : Way) → v.last.place ≡ w.last.place → preference ended v w ≡ Equal → v ≡ w
  unfolding preference
  way_same v w p e =
      let a = then_equal (int_cmp v.total w.total) _ e in
      let b = then_equal (nat_cmp v.last.group w.last.group) _ a.1 in
      let c = then_equal (nat_cmp v.last.class w.last.class) _ b.1 in
      let total = int_cmp-same v.total w.total a.0 in
      let node = node_same v.last w.last p (nat_cmp-same _ _ b.0) (nat_cmp-same _ _ c.0) in
      let before = nodes_same v.earlier w.earlier c.1 in
      let made : Node → List Node → ℤ → Way = λ x xs t. record { last = x; earlier = xs; total = t } in
      ap (λ k. made k v.earlier v.total) node ∙ (ap (λ k. made w.last k v.total) before ∙ ap (made w.last w.earlier) total)

  pub preference_at_node : (v w : Way) → v.last ≡ w.last → preference ended v w ≡ ordering_then (int_cmp v.total w.total) (slice_cmp (flip_args (order ended)) v.earlier w.earlier)
  unfolding preference
  preference_at_node v w e =
      then_middle _ _ _ _ (nat_cmp-tied _ _ (ap (λ x. x.group) e)) (nat_cmp-tied _ _ (ap (λ x. x.class) e))

  lists_on : (x y : Node) (xs ys : List Node) → x ≡ y → slice_cmp (flip_args (order ended)) (x ∷ xs) (y ∷ ys) ≡ slice_cmp (flip_args (order ended)) xs ys
  lists_on x y xs ys e =
      let tied : order ended y x ≡ Equal = subst (λ z. order ended z x ≡ Equal) e (tied_itself (order_total ended) x) in
      rw tied refl

-- From one node a further line leads to one node.
pub extended_node : (q : Pass) (to : ℕ) (d e : ℤ) (v w : Way) → v.last ≡ w.last → (extended q to d v).last ≡ (extended q to e w).last
unfolding extended
extended_node q to d e v w h =
    ap (λ (x : Node). let made : Node = record { place = to; group = next_group q.open_ended x.group; class = q.class x.place x.group to } in made) h

-- A further line from one node changes nothing.
pub preference-extended : (q : Pass) (to : ℕ) (d : ℤ) (v w : Way) → v.last ≡ w.last → preference q.open_ended (extended q to d v) (extended q to d w) ≡ preference q.open_ended v w
unfolding extended
preference-extended q to d v w e =
    let node = ap (λ (x : Node). let made : Node = record { place = to; group = next_group q.open_ended x.group; class = q.class x.place x.group to } in made) e in
    preference_at_node q.open_ended _ _ node
    ∙ (ap (λ o. ordering_then o (slice_cmp (flip_args (order q.open_ended)) (v.last ∷ v.earlier) (w.last ∷ w.earlier))) (int_cmp-added v.total w.total d)
    ∙ (ap (ordering_then (int_cmp v.total w.total)) (lists_on q.open_ended v.last w.last v.earlier w.earlier e)
    ∙ sym (preference_at_node q.open_ended v w e)))

module _ (ended : Option ℕ) where
  pub preferred_total : (v w : Way) → is_gt (preference ended v w) ≡ false → v.total ≤ℤ w.total
  unfolding preference
  preferred_total v w e = by (int_cmp v.total w.total) _ (int_ranked v.total w.total (int_cmp v.total w.total) refl) e
    where
      by : (o rest : Ordering) → MatchOrdering o (v.total <ℤ w.total) (v.total ≡ w.total) (w.total <ℤ v.total) → is_gt (ordering_then o rest) ≡ false → v.total ≤ℤ w.total
      by Less rest m h = omega (arith, ints)
      by Equal rest m h = omega (arith, ints)
      by Greater rest m h = absurd (false≢true (sym h))

  pub lower_preferred : (v w : Way) → v.total <ℤ w.total → preference ended v w ≡ Less
  unfolding preference
  lower_preferred v w h = let e = int_cmp-less v.total w.total h in rw e refl
