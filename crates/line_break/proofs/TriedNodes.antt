-- Trying the nodes in order records the lines to a place.
--     by_node, lasts                the order of nodes, and which of a list in that order is last
--     tried_lines                   for a list in the order of nodes
use Rattle.std.proofs.Common.{◌≡◌, ℕ, Bool, true, false, cond, not, ◌&&◌, ◌||◌, List, [], ◌∷◌, map, filter, pos, refl, sym, ap, ◌∙◌, inl}
use Rattle.std.specs.List.{list_all}
use Rattle.std.specs.declared.cmp.Ordering.{Ordering}
use Rattle.std.specs.declared.cmp.Ordering.TheVariants.{Less, Equal, Greater}
use Rattle.std.proofs.Math.Bool.{and-true, and-false, and_assoc}
use Rattle.std.proofs.lemmas.Cmp.{tied_itself}
use Rattle.line_break.specs.declared.node.Node.{Node}
use Rattle.line_break.specs.declared.node.Way.{Way}
use Rattle.line_break.specs.Members.{Among, is_empty, Ascends}
use Rattle.line_break.specs.Pass.{Pass, order}
use Rattle.line_break.specs.Ways.{extended, dies, records, is_last, rescued, lines_to}
use Rattle.line_break.specs.Sweep.{tried}
use Rattle.line_break.proofs.MemberLemmas.{Among-passes, all_same, filter_same, less_back}
use Rattle.line_break.proofs.OrderLemmas.{order_total}

module _ (q : Pass) where
  abbrev pub by_node : Way → Way → Ordering
  by_node v w = order q.open_ended v.last w.last

  abbrev pub last_of : Way → List Way → Way
  last_of w [] = w
  last_of w (v ∷ vs) = last_of v vs

  -- no line is recorded but perhaps from the last of the list
  abbrev none_but_last : ℕ → List Way → Bool
  none_but_last to [] = true
  none_but_last to (w ∷ ws) = is_empty ws || (not (records q to w) && none_but_last to ws)

  one_tried : (f u d r : Bool) (rescue : List Way) (g : Way → Way) (w : Way) → cond (f && u && d) rescue (cond r (g w ∷ []) []) ≡ cond (f && u && (d && true) && true) rescue (map g (cond r (w ∷ []) []))
  one_tried f u d true rescue g w = rw (and-true d, and-true (f && u && d)) refl
  one_tried f u d false rescue g w = rw (and-true d, and-true (f && u && d)) refl

  more_tried : (f u d r all none : Bool) (rescue rest : List Way) (g : Way → Way) (w : Way) (t : Bool → List Way)
      → ((x : Bool) → t x ≡ cond (f && x && all && none) rescue (map g rest))
      → cond r (g w ∷ t false) (t (u && d)) ≡ cond (f && u && (d && all) && (false || (not r && none))) rescue (map g (cond r (w ∷ rest) rest))
  more_tried f u d true all none rescue rest g w t h =
      rw (h false, and-false f, and-false (f && u && (d && all))) refl
  more_tried f u d false all none rescue rest g w t h =
      let same : f && (u && d) && all ≡ f && u && (d && all) = ap (λ b. b && all) (sym (and_assoc f u d)) ∙ and_assoc (f && u) d all in
      h (u && d) ∙ ap (λ b. cond (b && none) rescue (map g rest)) same

  tried_is : (to : ℕ) (quiet : Bool) (w : Way) (ws : List Way)
      → tried q to quiet (w ∷ ws)
      ≡ cond (q.final && quiet && list_all (λ v. dies q to v.last) (w ∷ ws) && none_but_last to (w ∷ ws)) (extended q to (pos 0) (last_of w ws) ∷ []) (map (λ v. extended q to (q.demerits v.last to) v) (filter (records q to) (w ∷ ws)))
  unfolding tried
  tried_is to quiet w [] =
      one_tried q.final quiet (dies q to w.last) (records q to w) (extended q to (pos 0) w ∷ []) (λ v. extended q to (q.demerits v.last to) v) w
  tried_is to quiet w (v ∷ vs) =
      more_tried q.final quiet (dies q to w.last) (records q to w) (list_all (λ x. dies q to x.last) (v ∷ vs)) (none_but_last to (v ∷ vs))
      (extended q to (pos 0) (last_of v vs) ∷ []) (filter (records q to) (v ∷ vs)) (λ x. extended q to (q.demerits x.last to) x) w
      (λ x. tried q to x (v ∷ vs)) (λ x. tried_is to x v vs)

  tied : (x : Node) → order q.open_ended x x ≡ Equal
  tied x = tied_itself (order_total q.open_ended) x

  is_last_skips : (w : Way) (ws : List Way) → Ascends by_node (w ∷ ws) → (x : Way) → Among ws x → is_last q (w ∷ ws) x ≡ is_last q ws x
  unfolding is_last
  is_last_skips w ws a x m =
      let after : order q.open_ended x.last w.last ≡ Greater = less_back (order_total q.open_ended) w.last x.last (a.0 x m) in
      rw after refl

  first_not_last : (w v : Way) (vs : List Way) → Ascends by_node (w ∷ v ∷ vs) → is_last q (w ∷ v ∷ vs) w ≡ false
  unfolding is_last
  first_not_last w v vs a =
      let here = tied w.last in
      let after : order q.open_ended w.last v.last ≡ Less = a.0 v (inl refl) in
      rw (here, after) refl

  alone_last : (w : Way) → is_last q (w ∷ []) w ≡ true
  unfolding is_last
  alone_last w = let here = tied w.last in rw here refl

  pub lasts : (w : Way) (ws : List Way) → Ascends by_node (w ∷ ws) → filter (is_last q (w ∷ ws)) (w ∷ ws) ≡ last_of w ws ∷ []
  lasts w [] a = rw (alone_last w) refl
  lasts w (v ∷ vs) a =
      let skip = filter_same (is_last q (w ∷ v ∷ vs)) (is_last q (v ∷ vs)) (v ∷ vs) (is_last_skips w (v ∷ vs) a) in
      ap (λ b. cond b (w ∷ filter (is_last q (w ∷ v ∷ vs)) (v ∷ vs)) (filter (is_last q (w ∷ v ∷ vs)) (v ∷ vs))) (first_not_last w v vs a)
      ∙ (skip ∙ lasts v vs a.1)

  none_is : (to : ℕ) (w : Way) (ws : List Way) → Ascends by_node (w ∷ ws) → list_all (is_last q (w ∷ ws)) (filter (records q to) (w ∷ ws)) ≡ none_but_last to (w ∷ ws)
  none_is to w [] a = by (records q to w)
    where
      by : (r : Bool) → list_all (is_last q (w ∷ [])) (cond r (w ∷ []) []) ≡ true
      by true = rw (alone_last w) refl
      by false = refl
  none_is to w (v ∷ vs) a = by (records q to w) (none_is to v vs a.1)
    where
      by : (r : Bool) → list_all (is_last q (v ∷ vs)) (filter (records q to) (v ∷ vs)) ≡ none_but_last to (v ∷ vs)
          → list_all (is_last q (w ∷ v ∷ vs)) (cond r (w ∷ filter (records q to) (v ∷ vs)) (filter (records q to) (v ∷ vs))) ≡ (not r && none_but_last to (v ∷ vs))
      by true h = rw (first_not_last w v vs a) refl
      by false h =
          all_same (is_last q (w ∷ v ∷ vs)) (is_last q (v ∷ vs)) (filter (records q to) (v ∷ vs))
          (λ x m. is_last_skips w (v ∷ vs) a x (Among-passes (records q to) (v ∷ vs) x m).0)
          ∙ h

  none_tried : (b : Bool) → cond {A = List Way} b [] [] ≡ []
  none_tried true = refl
  none_tried false = refl

  pub tried_lines : (to : ℕ) (ws : List Way) → Ascends by_node ws → tried q to true ws ≡ lines_to q to ws
  unfolding tried lines_to rescued
  tried_lines to [] a = sym (none_tried (rescued q to []))
  tried_lines to (w ∷ ws) a =
      let last = lasts w ws a in
      let none = none_is to w ws a in
      let all = list_all (λ v. dies q to v.last) (w ∷ ws) in
      let recorded = map (λ v. extended q to (q.demerits v.last to) v) (filter (records q to) (w ∷ ws)) in
      tried_is to true w ws
      ∙ (ap (λ b. cond (q.final && true && all && b) (extended q to (pos 0) (last_of w ws) ∷ []) recorded) (sym none)
      ∙ ap (λ vs. cond (q.final && true && all && list_all (is_last q (w ∷ ws)) (filter (records q to) (w ∷ ws))) (map (extended q to (pos 0)) vs) recorded) (sym last))
