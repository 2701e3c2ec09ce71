-- What holds of the active nodes.
--     active_near            their numbers fit
--     living_ascend, new_ascend, apart_at     the nodes that live on and the new ones, in order and apart
--     new_nodes_are          which of the recorded lines become nodes
--     active_more            the list after a place
use Rattle.std.proofs.Common.{◌≡◌, ◌≢◌, ℕ, zero, suc, ◌+◌, ◌<◌, ◌≤◌, ◌^◌, Bool, true, false, cond, not, ◌&&◌, pos, List, [], ◌∷◌, map, filter, length, Option, Some, None, refl, sym, ap, ◌∙◌, subst, inl, inr, add-one, arith}
use Rattle.std.specs.Prelude.{◌-◌, int_le}
use Rattle.std.specs.List.{list_all, fold, All}
use Rattle.std.proofs.lemmas.List.Elements.{All-nil, All-cons, All-head, All-tail}
use Rattle.std.proofs.lemmas.Int.{ints}
use Rattle.std.specs.declared.cmp.Ordering.TheVariants.{Equal}
use Rattle.line_break.specs.declared.node.Node.{Node}
use Rattle.line_break.specs.declared.node.Way.{Way}
use Rattle.line_break.specs.Members.{Among, Ascends}
use Rattle.line_break.specs.Pass.{Pass, group_of_line, order}
use Rattle.line_break.specs.Ways.{start, dies, stands, ways, open_to, awful_bad}
use Rattle.line_break.specs.Sweep.{tried, put, kept, new_nodes, after_place, active}
use Rattle.line_break.proofs.MemberLemmas.{Among-passes}
use Rattle.line_break.proofs.OrderLemmas.{order_same}
use Rattle.line_break.proofs.OpenWays.{open_source, ways_place, ways_bound, ways_low}
use Rattle.line_break.proofs.MadeOfLines.{made_of_lines}
use Rattle.line_break.proofs.Ending.{active_list}
use Rattle.line_break.proofs.PutNodes.{ascends_filter, puts_ascend}
use Rattle.line_break.proofs.TriedNodes.{by_node}
use Rattle.break_sweep.specs.Costs.{IsAmount}
use Rattle.break_sweep.specs.declared.made.Made.{Made}
use Rattle.break_sweep.specs.Made.{way_of, ways_of, listed, IsNear, AreActive}
use Rattle.break_sweep.specs.Standing.{is_made}

pub all_among : {X : Type 0} (P : X → Type 0) (xs : List X) → ((x : X) → Among xs x → P x) → All P xs
all_among P [] h = All-nil P
all_among P (x ∷ xs) h = All-cons P x xs (h x (inl refl)) (all_among P xs (λ y m. h y (inr m)))

pub found_among : {X : Type 0} (P : X → Type 0) (xs : List X) (x : X) → All P xs → Among xs x → P x
found_among P [] x all m = absurd m
found_among P (y ∷ ys) x all (inl e) = subst P (sym e) (All-head P y ys all)
found_among P (y ∷ ys) x all (inr m) = found_among P ys x (All-tail P y ys all) m

counted : (ended : Option ℕ) (lines : ℕ) → (ended ≡ Some 0 → ⊥) → 0 < group_of_line ended (lines + 1)
counted None lines h = omega arith
counted (Some zero) lines h = absurd (h refl)
counted (Some (suc last)) lines h = omega arith

module _ (q : Pass) where
  active_source : (place : ℕ) (w : Way) → Among (active q place) w → Among (ways q place) w
  unfolding open_to
  active_source place w m = open_source q (suc place) (ways q place) w ((active_list q place).are_open w m)

  pub active_place : (place : ℕ) (w : Way) → Among (active q place) w → w.last.place ≤ place
  active_place place w m = ways_place q place w (active_source place w m)

  pub active_near : ((x : Node) (to : ℕ) → IsAmount (q.demerits x to)) → (q.open_ended ≡ Some 0 → ⊥) → (place : ℕ) → place ≤ 2 ^ 17 → (w : Way) → Among (active q place) w → IsNear (suc place) w.last w.total
  active_near amounts groups place few w m =
      let n = active_source place w m in
      let at = ways_place q place w n in
      let l = ways_low q (2 ^ 41) (λ x to. (amounts x to).low) place w n in
      let h = ways_bound q place w n in
      let g = (made_of_lines q place w n).group in
      let c = counted q.open_ended (length w.earlier) groups in
      record { forward = omega arith; low = omega (arith, ints); high = omega (arith, ints); group_low = omega arith; group_high = omega arith }

  abbrev pub stays : ℕ → Way → Bool
  stays to w = not (dies q to w.last)

  pub living_ascend : (place to : ℕ) → Ascends (by_node q) (filter (stays to) (active q place))
  living_ascend place to = ascends_filter (by_node q) (stays to) (active q place) (active_list q place).in_order

  pub new_ascend : (lines : List Way) → Ascends (by_node q) (new_nodes q (kept q lines))
  unfolding new_nodes kept
  new_ascend lines =
      ascends_filter (by_node q) (λ w. stands q (fold (put q) [] lines) w && int_le w.total (pos (awful_bad - 1))) (fold (put q) [] lines) (puts_ascend q [] lines tt)

  pub apart_at : (place : ℕ) (v : Way) (x : Node) → Among (filter (stays (suc place)) (active q place)) v → x.place ≡ suc place → order q.open_ended x v.last ≢ Equal
  apart_at place v x m at e =
      let low = active_place place v (Among-passes (stays (suc place)) (active q place) v m).0 in
      let same = ap (λ (y : Node). y.place) (order_same q.open_ended x v.last e) in
      absurd (omega arith)

  list_all_map : {X Y : Type 0} (p : Y → Bool) (f : X → Y) (xs : List X) → list_all p (map f xs) ≡ list_all (λ x. p (f x)) xs
  list_all_map p f [] = refl
  list_all_map p f (x ∷ xs) = ap (λ b. p (f x) && b) (list_all_map p f xs)

  filter_map_same : {X Y : Type 0} (p : Y → Bool) (r : X → Bool) (f : X → Y) → ((x : X) → p (f x) ≡ r x) → (xs : List X) → filter p (map f xs) ≡ map f (filter r xs)
  filter_map_same p r f same [] = refl
  filter_map_same {X} {Y} p r f same (x ∷ xs) =
      ap (λ b. cond b (f x ∷ filter p (map f xs)) (filter p (map f xs))) (same x) ∙ by (r x) (filter_map_same p r f same xs)
    where
      by : (b : Bool) → filter p (map f xs) ≡ map f (filter r xs) → cond b (f x ∷ filter p (map f xs)) (filter p (map f xs)) ≡ map f (cond b (x ∷ filter r xs) (filter r xs))
      by true e = ap (λ l. f x ∷ l) e
      by false e = e

  pub new_nodes_are : (ws : List Way) (best : List Made) → new_nodes q (map (way_of ws) best) ≡ map (way_of ws) (filter (is_made q.slack best) best)
  unfolding new_nodes stands
  new_nodes_are ws best =
      filter_map_same (λ w. stands q (map (way_of ws) best) w && int_le w.total (pos (awful_bad - 1))) (is_made q.slack best) (way_of ws)
      (λ m. ap (λ b. b && int_le m.total (pos (awful_bad - 1))) (list_all_map _ (way_of ws) best)) best

  pub active_more : (place : ℕ) (active_now living fresh : List Way) → active_now ≡ fold (put q) living fresh
      → living ≡ filter (stays (suc place)) (active q place) → fresh ≡ new_nodes q (kept q (tried q (suc place) true (active q place)))
      → active_now ≡ active q (place + 1)
  unfolding active after_place
  active_more place active_now living fresh e f g =
      e ∙ (ap (λ l. fold (put q) l fresh) f
      ∙ (ap (fold (put q) (filter (stays (suc place)) (active q place))) g
      ∙ ap (active q) (sym (add-one place))))

-- The start alone is active before the first place.
pub start_active : (q : Pass) (ended : Option ℕ) (group : ℕ) (nodes : List Made) (indices : List ℕ) → q.open_ended ≡ ended → group ≡ group_of_line ended 1
    → nodes ≡ record { node = record { place = 0; group = group; class = 2 }; total = pos 0; before = 0 } ∷ [] → indices ≡ 0 ∷ [] → AreActive q 0 nodes indices
unfolding active start listed ways_of
start_active q ended group nodes indices e f g h =
    let made : ℕ → List Made = λ k. record { node = record { place = 0; group = k; class = 2 }; total = pos 0; before = 0 } ∷ [] in
    let same : group ≡ group_of_line q.open_ended 1 = f ∙ ap (λ o. group_of_line o 1) (sym e) in
    let begun : AreActive q 0 (made (group_of_line q.open_ended 1)) (0 ∷ []) = record {
      named = All-cons (λ i. i < 1) 0 [] (omega arith) (All-nil (λ i. i < 1));
      spelled = refl;
      few = omega arith;
    } in
    subst (λ l. AreActive q 0 l indices) (sym g) (subst (λ k. AreActive q 0 (made k) indices) (sym same) (subst (λ l. AreActive q 0 (made (group_of_line q.open_ended 1)) l) (sym h) begun))
