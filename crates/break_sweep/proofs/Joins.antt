-- New nodes put into the list of active nodes by their indices.
--     put_where              where a node goes
--     join_step, join_more   what the loop over the new nodes keeps
use Rattle.std.proofs.Common.{◌≡◌, ◌≢◌, ℕ, zero, suc, ◌+◌, ◌-◌, ◌<◌, ◌≤◌, false, List, [], ◌∷◌, ◌++◌, map, length, get_or, take, drop, Option, pos, refl, sym, ap, ◌∙◌, subst, inl, inr, ⊎_elim, arith}
use Rattle.std.specs.Prelude.{◌⊎◌}
use Rattle.std.specs.List.{fold, All}
use Rattle.std.proofs.lemmas.List.{map-append, take-map, drop-map, drop_more}
use Rattle.std.proofs.lemmas.Bool.Decides.{nat_tests}
use Rattle.std.specs.declared.cmp.Ordering.{Ordering}
use Rattle.std.specs.declared.cmp.Ordering.TheVariants.{Less, Equal, Greater}
use Rattle.line_break.specs.declared.node.Way.{Way}
use Rattle.line_break.specs.Members.{Among, Ascends}
use Rattle.line_break.specs.Pass.{Pass, order}
use Rattle.line_break.specs.Sweep.{put}
use Rattle.line_break.proofs.MemberLemmas.{Among-append_cases, greater_back, less_back}
use Rattle.line_break.proofs.OrderLemmas.{order_total}
use Rattle.line_break.proofs.TriedNodes.{by_node}
use Rattle.line_break.proofs.PutNodes.{puts_ascend}
use Rattle.break_sweep.specs.declared.made.Made.{Made}
use Rattle.break_sweep.specs.Made.{way_at, ways_of, listed, no_way}
use Rattle.break_sweep.specs.Joining.{IsToJoin}
use Rattle.break_sweep.proofs.NodeWays.{ways_length, read_last, listed_length, listed_at}

among_at : {X : Type 0} (xs : List X) (k : ℕ) (d : X) → k < length xs → Among xs (get_or xs k d)
among_at [] k d h = absurd (omega arith)
among_at (x ∷ xs) zero d h = inl refl
among_at (x ∷ xs) (suc k) d h = inr (among_at xs k d (omega arith))

among_take : {X : Type 0} (xs : List X) (i : ℕ) (x : X) → Among (take i xs) x → Among xs x
among_take xs zero x m = absurd m
among_take [] (suc i) x m = absurd m
among_take (y ∷ ys) (suc i) x (inl e) = inl e
among_take (y ∷ ys) (suc i) x (inr m) = inr (among_take ys i x m)

among_drop : {X : Type 0} (xs : List X) (i : ℕ) (x : X) → Among (drop i xs) x → Among xs x
among_drop xs zero x m = m
among_drop [] (suc i) x m = absurd m
among_drop (y ∷ ys) (suc i) x m = inr (among_drop ys i x m)

ascends_at : {X : Type 0} (c : X → X → Ordering) (xs : List X) (j k : ℕ) (d : X) → Ascends c xs → j < k → k < length xs → c (get_or xs j d) (get_or xs k d) ≡ Less
ascends_at c [] j k d a h l = absurd (omega arith)
ascends_at c (x ∷ xs) j zero d a h l = absurd (omega arith)
ascends_at c (x ∷ xs) zero (suc k) d a h l = a.0 (get_or xs k d) (among_at xs k d (omega arith))
ascends_at c (x ∷ xs) (suc j) (suc k) d a h l = ascends_at c xs j k d a.1 (omega arith) (omega arith)

below_cases : (k n : ℕ) → k < n + 1 → (k < n) ⊎ (k ≡ n)
below_cases k n h = grind (arith, nat_tests)

the_greater : (o : Ordering) → o ≢ Less → o ≢ Equal → o ≡ Greater
the_greater Less h k = absurd (h refl)
the_greater Equal h k = absurd (k refl)
the_greater Greater h k = refl

module _ (q : Pass) where
  put_at : (vs : List Way) (w : Way) (i : ℕ) → i ≤ length vs → ((k : ℕ) → k < i → order q.open_ended w.last (get_or vs k w).last ≡ Greater)
      → (i < length vs → order q.open_ended w.last (get_or vs i w).last ≡ Less) → put q vs w ≡ take i vs ++ w ∷ drop i vs
  unfolding put
  put_at [] w zero h low here = refl
  put_at [] w (suc i) h low here = absurd (omega arith)
  put_at (v ∷ vs) w zero h low here =
      let k : order q.open_ended w.last v.last ≡ Less = here (omega arith) in
      rw k refl
  put_at (v ∷ vs) w (suc i) h low here =
      let k : order q.open_ended w.last v.last ≡ Greater = low 0 (omega arith) in
      let rest = put_at vs w i (omega arith) (λ j l. low (suc j) (omega arith)) (λ l. here (omega arith)) in
      rw (k, rest) refl

  pub put_where : (vs : List Way) (w : Way) (i : ℕ) → i ≤ length vs
      → ((k : ℕ) → i ≤ k → k < length vs → order q.open_ended w.last (get_or vs k w).last ≡ Less)
      → (0 < i → order q.open_ended w.last (get_or vs (i - 1) w).last ≢ Less)
      → Ascends (by_node q) vs → ((v : Way) → Among vs v → order q.open_ended w.last v.last ≢ Equal)
      → put q vs w ≡ take i vs ++ w ∷ drop i vs
  put_where vs w i h above below a apart =
      put_at vs w i h low (λ l. above i (omega arith) l)
    where
      greatest : 0 < i → order q.open_ended w.last (get_or vs (i - 1) w).last ≡ Greater
      greatest l = the_greater _ (below l) (apart (get_or vs (i - 1) w) (among_at vs (i - 1) w (omega arith)))

      by : (k : ℕ) → k < i → (k < i - 1) ⊎ (k ≡ i - 1) → order q.open_ended w.last (get_or vs k w).last ≡ Greater
      by k l (inl e) =
          let total = order_total q.open_ended in
          less_back total (get_or vs k w).last w.last
          (total.trans (get_or vs k w).last (get_or vs (i - 1) w).last w.last (ascends_at (by_node q) vs k (i - 1) w a e (omega arith)) (greater_back total w.last (get_or vs (i - 1) w).last (greatest (omega arith))))
      by k l (inr e) = ap (λ j. order q.open_ended w.last (get_or vs j w).last) e ∙ greatest (omega arith)

      low : (k : ℕ) → k < i → order q.open_ended w.last (get_or vs k w).last ≡ Greater
      low k l = by k l (below_cases k (i - 1) (omega arith))

blank : Option ℕ → Pass
blank ended = record {
  legal = [];
  forced = λ _. false;
  badness = λ _ _ _. 0;
  class = λ _ _ _. 0;
  demerits = λ _ _. pos 0;
  threshold = pos 0;
  slack = 0;
  final = false;
  open_ended = ended;
}

among_append : {X : Type 0} (vs ws : List X) (i : ℕ) (w x : X) → Among (take i vs ++ w ∷ drop i vs) x → (x ≡ w) ⊎ Among vs x
among_append vs ws i w x m = ⊎_elim
    (λ k. inr (among_take vs i x k))
    (λ k. ⊎_elim (λ (e : x ≡ w). inl e) (λ n. inr (among_drop vs i x n)) k)
    (Among-append_cases (take i vs) (w ∷ drop i vs) x m)

module _ (ended : Option ℕ) where
  abbrev pub by_end : Way → Way → Ordering
  by_end v w = order ended v.last w.last

  pub join_step : (some : List Way) (w : Way) (rest : List Way) (i : ℕ) → IsToJoin ended some (w ∷ rest) → i ≤ length some
      → ((k : ℕ) → i ≤ k → k < length some → order ended w.last (get_or some k w).last ≡ Less)
      → (0 < i → order ended w.last (get_or some (i - 1) w).last ≢ Less)
      → IsToJoin ended (take i some ++ w ∷ drop i some) rest × ((q : Pass) → q.open_ended ≡ ended → fold (put q) (take i some ++ w ∷ drop i some) rest ≡ fold (put q) some (w ∷ rest))
  unfolding blank
  join_step some w rest i j within above below =
      let q = blank ended in
      let clear : (v : Way) → Among some v → order ended w.last v.last ≢ Equal = λ v m. j.apart v w m (inl refl) in
      let is : put q some w ≡ take i some ++ w ∷ drop i some = put_where q some w i within above below j.old_ascend clear in (
        record {
          old_ascend = subst (Ascends by_end) is (puts_ascend q some (w ∷ []) j.old_ascend);
          fresh_ascend = j.fresh_ascend.1;
          apart = λ v x m n. ⊎_elim
              (λ (e : v ≡ w). λ (k : order ended x.last v.last ≡ Equal).
              let less : order ended w.last x.last ≡ Less = j.fresh_ascend.0 x n in
              let back : order ended x.last w.last ≡ Greater = less_back (order_total ended) w.last x.last less in
              let same : order ended x.last w.last ≡ Equal = subst (λ (u : Way). order ended x.last u.last ≡ Equal) e k in
              cc)
              (λ k. j.apart v x k (inr n))
              (among_append some rest i w v m);
        },
        λ p e.
            ap (λ l. fold (put p) l rest)
            (sym (put_where p some w i within
            (λ k a b. ap (λ o. order o w.last (get_or some k w).last) e ∙ above k a b)
            (λ a b. below a (ap (λ o. order o w.last (get_or some (i - 1) w).last) (sym e) ∙ b))
            (subst (λ o. Ascends (λ (v x : Way). order o v.last x.last) some) (sym e) j.old_ascend)
            (λ v m b. clear v m (ap (λ o. order o w.last v.last) (sym e) ∙ b)))),
      )

pub listed_inserted : (ws : List Way) (indices : List ℕ) (at index : ℕ) → listed ws (take at indices ++ index ∷ drop at indices) ≡ take at (listed ws indices) ++ way_at ws index ∷ drop at (listed ws indices)
unfolding listed
listed_inserted ws indices at index =
    map-append (way_at ws) (take at indices) (index ∷ drop at indices)
    ∙ (ap (λ l. l ++ way_at ws index ∷ map (way_at ws) (drop at indices)) (sym (take-map (way_at ws) at indices))
    ∙ ap (λ l. take at (map (way_at ws) indices) ++ way_at ws index ∷ l) (sym (drop-map (way_at ws) at indices)))

last_at : (ms : List Made) (indices : List ℕ) (k : ℕ) (w : Way) (d : Made) → All (λ i. i < length ms) indices → k < length indices
    → (get_or (listed (ways_of ms) indices) k w).last ≡ (get_or ms (get_or indices k 0) d).node
last_at ms indices k w d named h =
    ap (λ (v : Way). v.last) (listed_at (ways_of ms) indices k 0 w h) ∙ read_last ms (get_or indices k 0) d (named k 0 h)

pub join_more : (ended : Option ℕ) (ms : List Made) (indices : List ℕ) (index at : ℕ) (d : Made) → All (λ i. i < length ms) indices → index < length ms → at ≤ length indices
    → ((k : ℕ) → at ≤ k → k < length indices → order ended (get_or ms index d).node (get_or ms (get_or indices k 0) d).node ≡ Less)
    → (0 < at → order ended (get_or ms index d).node (get_or ms (get_or indices (at - 1) 0) d).node ≢ Less)
    → IsToJoin ended (listed (ways_of ms) indices) (drop index (ways_of ms))
    → IsToJoin ended (listed (ways_of ms) (take at indices ++ index ∷ drop at indices)) (drop (index + 1) (ways_of ms))
    × ((q : Pass) → q.open_ended ≡ ended
    → fold (put q) (listed (ways_of ms) (take at indices ++ index ∷ drop at indices)) (drop (index + 1) (ways_of ms))
    ≡ fold (put q) (listed (ways_of ms) indices) (drop index (ways_of ms)))
join_more ended ms indices index at d named h within above below j =
    let ws = ways_of ms in
    let n = ways_length ms in
    let m = listed_length ws indices in
    let w = way_at ws index in
    let some = listed ws indices in
    let rest = drop (index + 1) ws in
    let split : drop index ws ≡ w ∷ rest = drop_more ws index no_way (omega arith) in
    let here : w.last ≡ (get_or ms index d).node = read_last ms index d h in
    let less : (k : ℕ) → at ≤ k → k < length some → order ended w.last (get_or some k w).last ≡ Less =
    λ k a b. let l : k < length indices = omega arith in ap (λ x. order ended x (get_or some k w).last) here ∙ (ap (order ended (get_or ms index d).node) (last_at ms indices k w d named l) ∙ above k a l) in
    let high : 0 < at → order ended w.last (get_or some (at - 1) w).last ≢ Less =
    λ a b. below a (sym (ap (λ x. order ended x (get_or some (at - 1) w).last) here ∙ ap (order ended (get_or ms index d).node) (last_at ms indices (at - 1) w d named (omega arith))) ∙ b) in
    let s = join_step ended some w rest at (subst (IsToJoin ended some) split j) (omega arith) less high in
    let same = listed_inserted ws indices at index in (
      subst (λ l. IsToJoin ended l rest) (sym same) s.0,
      λ q e. ap (λ l. fold (put q) l rest) same ∙ (s.1 q e ∙ ap (fold (put q) some) (sym split)),
    )
