-- The end of a pass.
--     open_to_is, active_list       the list of active nodes in the words of the definitions
--     chosen, chosen_of_group       the first node of least total has the best way
use Rattle.std.proofs.Common.{◌≡◌, ℕ, suc, Bool, true, false, cond, not, ◌&&◌, ◌||◌, List, [], ◌∷◌, filter, Option, Some, None, ℤ, pos, neg_ℤ, ◌+ℤ◌, refl, sym, ap, ◌∙◌, subst, inl, inr, ⊎_elim, arith}
use Rattle.std.specs.Prelude.{◌==◌, nat_le, int_le}
use Rattle.std.specs.declared.cmp.Ordering.{Ordering}
use Rattle.std.specs.declared.cmp.Ordering.TheVariants.{Less, Equal, Greater}
use Rattle.std.specs.Ordering.{is_lt, is_gt, nat_cmp, int_cmp, on, ordering_then}
use Rattle.std.specs.Cmp.{IsTotalOrder}
use Rattle.std.proofs.lemmas.Bool.{false≢true, and_parts, and_from, or_left, or_right, or_cases, or_parts, not-false, not_from_true, eqb-true, eq-eqb, leb-true}
use Rattle.std.proofs.lemmas.Cmp.{tied_itself}
use Rattle.std.proofs.lemmas.Int.{ints}
use Rattle.line_break.specs.declared.node.Node.{Node}
use Rattle.line_break.specs.declared.node.Way.{Way}
use Rattle.line_break.specs.Members.{Among, Ascends, first_by, first_of_two}
use Rattle.line_break.specs.Pass.{Pass, is_open_ended, rank_of_place, order}
use Rattle.line_break.specs.Ways.{dies, lives, same_start, stands, open_ways, ways, open_to}
use Rattle.line_break.specs.Best.{preference, end_of, to_the_end, best, best_of_group}
use Rattle.line_break.specs.Sweep.{active, first_of_least}
use Rattle.line_break.specs.Laws.{IsActiveList}
use Rattle.line_break.proofs.MemberLemmas.{Among-filter, Among-passes, all_at, all_from, all_fails, IsFirst, first_by_is, tied_both, less_back}
use Rattle.line_break.proofs.OrderLemmas.{int_le-true, int_le-false, le-int_le, nat_cmp-same, int_cmp-tied, order_total, preference_total, way_same, preferred_total, lower_preferred}
use Rattle.line_break.proofs.OpenWays.{ways_place, open_source, lives_new}
use Rattle.line_break.proofs.TriedNodes.{by_node}
use Rattle.line_break.proofs.PutNodes.{ascends_filter}
use Rattle.line_break.proofs.Sweeping.{sound}

pub same_start-true : (x y : Node) → same_start x y ≡ true → (x.place ≡ y.place) × (x.group ≡ y.group)
same_start-true x y e = let k = and_parts _ _ e in (eqb-true x.place y.place k.0, eqb-true x.group y.group k.1)

-- in a list in order each node stands once
pub node_once : (q : Pass) (ws : List Way) (v w : Way) → Ascends (by_node q) ws → Among ws v → Among ws w → v.last ≡ w.last → v ≡ w
node_once q [] v w a m n e = absurd m
node_once q (x ∷ xs) v w a (inl k) (inl l) e = k ∙ sym l
node_once q (x ∷ xs) v w a (inl k) (inr n) e =
    let less : order q.open_ended x.last w.last ≡ Less = a.0 w n in
    let same : order q.open_ended x.last w.last ≡ Equal = subst (λ z. order q.open_ended x.last z ≡ Equal) (ap (λ (u : Way). u.last) (sym k) ∙ e) (tied_itself (order_total q.open_ended) x.last) in
    cc
node_once q (x ∷ xs) v w a (inr m) (inl l) e =
    let less : order q.open_ended x.last v.last ≡ Less = a.0 v m in
    let same : order q.open_ended x.last v.last ≡ Equal = subst (λ z. order q.open_ended x.last z ≡ Equal) (ap (λ (u : Way). u.last) (sym l) ∙ sym e) (tied_itself (order_total q.open_ended) x.last) in
    cc
node_once q (x ∷ xs) v w a (inr m) (inr n) e = node_once q xs v w a.1 m n e

-- of two ways at one node one that stands is before one that doesn't
stands_first : (q : Pass) (ws : List Way) (w v : Way) → v.last ≡ w.last → stands q ws w ≡ true → stands q ws v ≡ false → is_gt (preference q.open_ended w v) ≡ false
unfolding stands
stands_first q ws w v e good bad =
    let k = all_fails (λ u. not (same_start u.last v.last) || int_le v.total (u.total +ℤ pos q.slack)) ws bad in
    let u = k.0 in
    let p = or_parts (not (same_start u.last v.last)) (int_le v.total (u.total +ℤ pos q.slack)) k.2 in
    let near : same_start u.last w.last ≡ true = ap (same_start u.last) (sym e) ∙ not-false _ p.0 in
    let far = int_le-false v.total (u.total +ℤ pos q.slack) p.1 in
    ⊎_elim
    (λ (apart : not (same_start u.last w.last) ≡ true). absurd (false≢true (sym (not_from_true _ near) ∙ apart)))
    (λ (below : int_le w.total (u.total +ℤ pos q.slack) ≡ true).
    let le = int_le-true w.total (u.total +ℤ pos q.slack) below in
    ap is_gt (lower_preferred q.open_ended w v (omega (arith, ints))))
    (or_cases _ _ (all_at (λ x. not (same_start x.last w.last) || int_le w.total (x.total +ℤ pos q.slack)) ws u good k.1))

module _ (q : Pass) where
  pub open_parts : (to : ℕ) (ws : List Way) (w : Way) → Among (open_ways q to ws) w → (Among ws w) × (stands q ws w ≡ true) × (lives q to w.last ≡ true)
  unfolding open_ways
  open_parts to ws w m =
      let k = Among-passes (λ v. stands q ws v && lives q to v.last) ws w m in
      let p = and_parts _ _ k.1 in
      (k.0, p.0, p.1)

  pub open_from : (to : ℕ) (ws : List Way) (w : Way) → Among ws w → stands q ws w ≡ true → lives q to w.last ≡ true → Among (open_ways q to ws) w
  unfolding open_ways
  open_from to ws w m s l = Among-filter (λ v. stands q ws v && lives q to v.last) ws w m (and_from _ _ s l)

  pub active_list : (place : ℕ) → IsActiveList q place (active q place)
  unfolding open_to
  active_list place =
      let s = sound q place in
      record {
        in_order = s.ascends;
        are_open = s.covers.within;
        are_all = λ v m. let f = s.covers.covered v m in (f.0, f.1, f.2);
        are_first = λ w v m n e. by w v m n e (stands q (ways q place) v) refl;
      }
    where
      by : (w v : Way) → Among (active q place) w → Among (ways q place) v → v.last ≡ w.last → (t : Bool) → stands q (ways q place) v ≡ t → is_gt (preference q.open_ended w v) ≡ false
      by w v m n e true k =
          let s = sound q place in
          let p = open_parts (suc place) (ways q place) w (s.covers.within w m) in
          let f = s.covers.covered v (open_from (suc place) (ways q place) v n k (ap (lives q (suc place)) e ∙ p.2)) in
          subst (λ u. is_gt (preference q.open_ended u v) ≡ false) (node_once q (active q place) f.0 w s.ascends f.1 m (f.2 ∙ e)) f.3
      by w v m n e false k =
          let s = sound q place in
          let p = open_parts (suc place) (ways q place) w (s.covers.within w m) in
          stands_first q (ways q place) w v e p.1 k

  -- past a place that forces a break only ways to it go on
  pub open_at_forced : (place : ℕ) → q.forced place ≡ true → (w : Way) → Among (open_ways q (suc place) (ways q place)) w → w.last.place ≡ place
  unfolding lives dies
  open_at_forced place forced w m =
      let p = open_parts (suc place) (ways q place) w m in
      let low = ways_place q place w p.0 in
      let l = and_parts (lives q place w.last) (nat_le place w.last.place || not (dies q place w.last)) p.2 in
      ⊎_elim
      (λ (e : nat_le place w.last.place ≡ true). let h = leb-true place w.last.place e in omega arith)
      (λ (e : not (q.forced place || (q.badness w.last.place w.last.group place == 10001)) ≡ true).
      absurd (false≢true (sym (not_from_true _ (or_left _ _ forced)) ∙ e)))
      (or_cases _ _ l.1)

then_greater : (a b c rest : Ordering) (tie : a ≡ Equal → b ≡ Equal) → ordering_then a (ordering_then b c) ≡ Greater → is_lt (ordering_then a (ordering_then c rest)) ≡ false
then_greater Less b c rest tie e = cc
then_greater Equal b c rest tie e = by b c (tie refl) e
  where
    by : (b c : Ordering) → b ≡ Equal → ordering_then b c ≡ Greater → is_lt (ordering_then c rest) ≡ false
    by b Less t e = let h : ordering_then Equal Less ≡ Greater = subst (λ x. ordering_then x Less ≡ Greater) t e in cc
    by b Equal t e = let h : ordering_then Equal Equal ≡ Greater = subst (λ x. ordering_then x Equal ≡ Greater) t e in cc
    by b Greater t e = refl
then_greater Greater b c rest tie e = refl

is_lt_then : (a b : Ordering) → is_lt b ≡ false → is_lt (ordering_then a b) ≡ is_lt a
is_lt_then Less b e = refl
is_lt_then Equal b e = e
is_lt_then Greater b e = refl

-- of nodes at one place in order the preference sees only the totals
later_at_place : (ended : Option ℕ) (w y : Way) → w.last.place ≡ y.last.place → order ended w.last y.last ≡ Less → is_lt (preference ended y w) ≡ is_lt (int_cmp y.total w.total)
unfolding order preference
later_at_place ended w y p less =
    let rank : nat_cmp y.last.group w.last.group ≡ Equal → int_cmp (rank_of_place ended y.last) (rank_of_place ended w.last) ≡ Equal =
    λ e.
    let g = nat_cmp-same y.last.group w.last.group e in
    let at : ℕ → ℕ → ℤ = λ group place. cond (is_open_ended ended group) (pos place) (neg_ℤ (pos place)) in
    int_cmp-tied _ _ (ap (λ k. at k y.last.place) g ∙ ap (at w.last.group) (sym p)) in
    is_lt_then (int_cmp y.total w.total) _
    (then_greater (nat_cmp y.last.group w.last.group) (int_cmp (rank_of_place ended y.last) (rank_of_place ended w.last)) (nat_cmp y.last.class w.last.class) _ rank
    (less_back (order_total ended) w.last y.last less))

pub some_same : {X : Type 0} (a b : X) → Some a ≡ Some b → a ≡ b
some_same a b e = cc

pub first_by_some : {X : Type 0} {c : X → X → Ordering} → IsTotalOrder c → (xs : List X) (b : X) → first_by c xs ≡ Some b → IsFirst c xs b
first_by_some total [] b e = cc
first_by_some {X} {c} total (x ∷ xs) b e = subst (IsFirst c (x ∷ xs)) (some_same _ b e) (first_by_is total x xs)

pub first_by_none : {X : Type 0} (c : X → X → Ordering) (xs : List X) → first_by c xs ≡ None → xs ≡ []
first_by_none c [] e = refl
first_by_none c (x ∷ xs) e = cc

pub first_by_only : {X : Type 0} {c : X → X → Ordering} → IsTotalOrder c → (xs : List X) (b : X) → ((x : X) → Among xs x → c x b ≡ Equal → x ≡ b) → IsFirst c xs b → first_by c xs ≡ Some b
first_by_only total [] b once f = absurd f.within
first_by_only {X} {c} total (x ∷ xs) b once f =
    let g = first_by_is total x xs in
    let a = first_of_two c x (first_by c xs) in
    ap Some (once a g.within (tied_both total a b (g.least b f.within) (f.least a g.within)))

-- the first node of least total is the first by the preference, where all nodes are at one place
least_is_first : (q : Pass) (place : ℕ) (ws : List Way) → ((w : Way) → Among ws w → w.last.place ≡ place) → Ascends (by_node q) ws → first_of_least ws ≡ first_by (preference q.open_ended) ws
unfolding first_of_least
least_is_first q place [] at a = refl
least_is_first q place (w ∷ ws) at a =
    let total : Way → Way → Ordering = on (λ (v : Way). v.total) int_cmp in
    let pref = preference q.open_ended in
    let rest = least_is_first q place ws (λ v m. at v (inr m)) a.1 in
    by (first_by pref ws) refl rest
  where
    by : (o : Option Way) → first_by (preference q.open_ended) ws ≡ o → first_by (on (λ (v : Way). v.total) int_cmp) ws ≡ first_by (preference q.open_ended) ws → first_by (on (λ (v : Way). v.total) int_cmp) (w ∷ ws) ≡ first_by (preference q.open_ended) (w ∷ ws)
    by None e h = rw (h, e) refl
    by (Some y) e h =
        let f = first_by_some (preference_total q.open_ended) ws y e in
        let same = later_at_place q.open_ended w y (at w (inl refl) ∙ sym (at y (inr f.within))) (a.0 y f.within) in
        rw (h, e, same) refl

pub no_members : {X : Type 0} (xs : List X) → ((x : X) → Among xs x → ⊥) → xs ≡ []
no_members [] h = refl
no_members (x ∷ xs) h = absurd (h x (inl refl))

all_pass : {X : Type 0} (xs : List X) → filter (λ _. true) xs ≡ xs
all_pass [] = refl
all_pass (x ∷ xs) = ap (λ ys. x ∷ ys) (all_pass xs)

module _ (q : Pass) (forced : q.forced (end_of q) ≡ true) where
  abbrev last_list : List Way
  last_list = active q (end_of q)

  ends_there : (w : Way) → Among last_list w → w.last.place ≡ end_of q
  ends_there w m = open_at_forced q (end_of q) forced w ((sound q (end_of q)).covers.within w m)

  pub to_end_parts : (w : Way) → Among (to_the_end q) w → (Among (ways q (end_of q)) w) × (w.last.place ≡ end_of q)
  unfolding to_the_end
  to_end_parts w m = let k = Among-passes (λ v. v.last.place == end_of q) (ways q (end_of q)) w m in (k.0, eqb-true w.last.place (end_of q) k.1)

  pub to_end_from : (w : Way) → Among (ways q (end_of q)) w → w.last.place ≡ end_of q → Among (to_the_end q) w
  unfolding to_the_end
  to_end_from w m e = Among-filter (λ v. v.last.place == end_of q) (ways q (end_of q)) w m (eq-eqb w.last.place (end_of q) e)

  -- every node of the last list has a way to the end
  pub nodes_reach : (w : Way) → Among last_list w → Among (to_the_end q) w
  nodes_reach w m =
      to_end_from w (open_source q (suc (end_of q)) (ways q (end_of q)) w ((sound q (end_of q)).covers.within w m)) (ends_there w m)

  -- The best of some ways to the end that have their groups to themselves is in the last list.
  pub best_stands : (some : List Way) → ((w : Way) → Among some w → Among (to_the_end q) w) → ((v w : Way) → Among some w → Among (to_the_end q) v → v.last.group ≡ w.last.group → Among some v)
      → (b : Way) → IsFirst (preference q.open_ended) some b → Among last_list b
  unfolding stands
  best_stands some within whole b f =
      let n = end_of q in
      let s = sound q n in
      let r = to_end_parts b (within b f.within) in
      let good : Way → Bool = λ v. not (same_start v.last b.last) || int_le b.total (v.total +ℤ pos q.slack) in
      let by : (v : Way) → Among (ways q n) v → (t : Bool) → same_start v.last b.last ≡ t → good v ≡ true =
      λ v m t. elim t as (λ x. same_start v.last b.last ≡ x → good v ≡ true) [
        | true ↦ λ e.
            let k = same_start-true v.last b.last e in
            let le = preferred_total q.open_ended b v (f.least v (whole v b f.within (to_end_from v m (k.0 ∙ r.1)) k.1)) in
            or_right _ _ (le-int_le b.total (v.total +ℤ pos q.slack) (omega (arith, ints)))
        | false ↦ λ e. or_left _ _ (ap not e)
      ] in
      let stand : stands q (ways q n) b ≡ true = all_from good (ways q n) (λ v m. by v m (same_start v.last b.last) refl) in
      let c = s.covers.covered b (open_from q (suc n) (ways q n) b r.0 stand (lives_new q (suc n) b.last (let p = r.1 in omega arith))) in
      let there = nodes_reach c.0 c.1 in
      let back = f.least c.0 (whole c.0 b f.within there (ap (λ (x : Node). x.group) c.2)) in
      let same = way_same q.open_ended c.0 b (ap (λ (x : Node). x.place) c.2) (tied_both (preference_total q.open_ended) c.0 b c.3 back) in
      subst (Among last_list) same c.1

  chosen_of : (p : Node → Bool) → ((x y : Node) → x.group ≡ y.group → p x ≡ p y)
      → first_of_least (filter (λ w. p w.last) last_list) ≡ first_by (preference q.open_ended) (filter (λ w. p w.last) (to_the_end q))
  chosen_of p by_group =
      let n = end_of q in
      let ends : Way → Bool = λ w. p w.last in
      let some = filter ends (to_the_end q) in
      let few = filter ends last_list in
      let pref = preference q.open_ended in
      least_is_first q n few (λ w m. ends_there w (Among-passes ends last_list w m).0) (ascends_filter (by_node q) ends last_list (sound q n).ascends)
      ∙ by (first_by pref some) refl
    where
      by : (o : Option Way) → first_by (preference q.open_ended) (filter (λ w. p w.last) (to_the_end q)) ≡ o → first_by (preference q.open_ended) (filter (λ w. p w.last) last_list) ≡ first_by (preference q.open_ended) (filter (λ w. p w.last) (to_the_end q))
      by None e =
          let none = first_by_none (preference q.open_ended) (filter (λ w. p w.last) (to_the_end q)) e in
          let few : filter (λ w. p w.last) last_list ≡ [] =
          no_members (filter (λ w. p w.last) last_list)
          (λ w m. let k = Among-passes (λ v. p v.last) last_list w m in subst (λ ws. Among ws w) none (Among-filter (λ v. p v.last) (to_the_end q) w (nodes_reach w k.0) k.1)) in
          rw (few, none) refl
      by (Some b) e =
          let n = end_of q in
          let ends : Way → Bool = λ w. p w.last in
          let some = filter ends (to_the_end q) in
          let few = filter ends last_list in
          let pref = preference q.open_ended in
          let f = first_by_some (preference_total q.open_ended) some b e in
          let k = Among-passes ends (to_the_end q) b f.within in
          let there = best_stands some (λ w m. (Among-passes ends (to_the_end q) w m).0)
          (λ v w m r g. Among-filter ends (to_the_end q) v r (by_group v.last w.last g ∙ (Among-passes ends (to_the_end q) w m).1)) b f in
          let least : IsFirst pref few b = record {
            within = Among-filter ends last_list b there k.1;
            least = λ w m. let r = Among-passes ends last_list w m in f.least w (Among-filter ends (to_the_end q) w (nodes_reach w r.0) r.1);
          } in
          first_by_only (preference_total q.open_ended) few b
          (λ w m t. way_same q.open_ended w b (ends_there w (Among-passes ends last_list w m).0 ∙ sym (ends_there b there)) t) least
          ∙ sym e

  pub chosen : first_of_least last_list ≡ best q
  unfolding best
  chosen =
      ap first_of_least (sym (all_pass last_list))
      ∙ (chosen_of (λ _. true) (λ x y _. refl)
      ∙ ap (first_by (preference q.open_ended)) (all_pass (to_the_end q)))

  pub chosen_of_group : (group : ℕ) → first_of_least (filter (λ w. w.last.group == group) last_list) ≡ best_of_group q group
  unfolding best_of_group
  chosen_of_group group = chosen_of (λ x. x.group == group) (λ x y e. ap (λ k. k == group) e)
