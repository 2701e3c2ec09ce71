-- The list of active nodes covers the open ways, from place to place.
--     Sound, sound              what holds of the list before each place
use Rattle.std.proofs.Common.{◌≡◌, ℕ, zero, suc, Bool, true, false, not, ◌&&◌, List, [], ◌∷◌, map, filter, pos, ◌+ℤ◌, ◌<ℤ◌, refl, sym, ap, ◌∙◌, subst, arith}
use Rattle.std.specs.Prelude.{◌-◌, int_le}
use Rattle.std.specs.List.{fold}
use Rattle.std.specs.Cmp.Lexicographic.{slice_cmp}
use Rattle.std.specs.declared.cmp.Ordering.{Ordering}
use Rattle.std.specs.declared.cmp.Ordering.TheVariants.{Less, Equal, Greater}
use Rattle.std.specs.Ordering.{MatchOrdering, is_gt, int_cmp, flip_args, ordering_then}
use Rattle.std.proofs.Math.Bool.{and-true}
use Rattle.std.proofs.lemmas.Bool.{and_from, or_right}
use Rattle.std.proofs.lemmas.Cmp.{tied_itself, int_ranked}
use Rattle.std.proofs.lemmas.Int.{ints}
use Rattle.line_break.specs.declared.node.Node.{Node}
use Rattle.line_break.specs.declared.node.Way.{Way}
use Rattle.line_break.specs.Members.{Among, Ascends}
use Rattle.line_break.specs.Pass.{Pass, order}
use Rattle.line_break.specs.Ways.{start, extended, dies, stands, open_ways, records, rescued, lines_to, ways, awful_bad}
use Rattle.line_break.specs.Sweep.{tried, put, kept, new_nodes, after_place, active}
use Rattle.line_break.proofs.MemberLemmas.{Among-passes, Among-mapped, filter_same}
use Rattle.line_break.proofs.OrderLemmas.{le-int_le, order_total, preference_at_node}
use Rattle.line_break.proofs.Covering.{Covers, lines_by, covers-itself, covers-trans, covers-append, covers-filter, covers-standing, covers-lines}
use Rattle.line_break.proofs.OpenWays.{stays, ways_place, lines_place, lines_bound, ways_bound, open_source, lives_new, next_open}
use Rattle.line_break.proofs.TriedNodes.{by_node, lasts, tried_lines}
use Rattle.line_break.proofs.PutNodes.{Yields, AllYield, ascends_filter, puts_ascend, puts_cover}

pub record Sound (q : Pass) (place : ℕ) (nodes : List Way) : Type 0 where
  pub covers : Covers q.open_ended nodes (open_ways q (suc place) (ways q place))
  pub ascends : Ascends (by_node q) nodes

module _ (q : Pass) where
  -- of two lines to one node the later in the order of nodes goes first where its total is no higher
  tie_of_lines : (to : ℕ) (v w : Way) → order q.open_ended v.last w.last ≡ Less → Yields q (extended q to (q.demerits v.last to) v) (extended q to (q.demerits w.last to) w)
  unfolding extended
  tie_of_lines to v w before same total =
      ap is_gt (preference_at_node q.open_ended (extended q to (q.demerits w.last to) w) (extended q to (q.demerits v.last to) v) (sym same))
      ∙ by _ (int_ranked (w.total +ℤ q.demerits w.last to) (v.total +ℤ q.demerits v.last to) (int_cmp (w.total +ℤ q.demerits w.last to) (v.total +ℤ q.demerits v.last to)) refl)
    where
      by : (o : Ordering) → MatchOrdering o ((w.total +ℤ q.demerits w.last to) <ℤ (v.total +ℤ q.demerits v.last to)) ((w.total +ℤ q.demerits w.last to) ≡ (v.total +ℤ q.demerits v.last to)) ((v.total +ℤ q.demerits v.last to) <ℤ (w.total +ℤ q.demerits w.last to))
          → is_gt (ordering_then o (slice_cmp (flip_args (order q.open_ended)) (w.last ∷ w.earlier) (v.last ∷ v.earlier))) ≡ false
      by Less m = refl
      by Equal m = rw before refl
      by Greater m = absurd (omega (arith, ints))

  recorded_yield : (to : ℕ) (ws : List Way) → Ascends (by_node q) ws → AllYield q (map (λ w. extended q to (q.demerits w.last to) w) ws)
  recorded_yield to [] a = tt
  recorded_yield to (w ∷ ws) a =
      let more : Way → Way = λ v. extended q to (q.demerits v.last to) v in
      (λ y m. let k = Among-mapped more ws y m in subst (Yields q (more w)) (sym k.2) (tie_of_lines to w k.0 (a.0 k.0 k.1)), recorded_yield to ws a.1)

  lines_by_yield : (to : ℕ) (t : Bool) (ws : List Way) → Ascends (by_node q) ws → AllYield q (lines_by q to t ws)
  unfolding lines_by
  lines_by_yield to true [] a = tt
  lines_by_yield to true (w ∷ ws) a =
      subst (λ vs. AllYield q (map (extended q to (pos 0)) vs)) (sym (lasts q w ws a)) (λ y m. absurd m, tt)
  lines_by_yield to false ws a = recorded_yield to (filter (records q to) ws) (ascends_filter (by_node q) (records q to) ws a)

  lines_yield : (to : ℕ) (ws : List Way) → Ascends (by_node q) ws → AllYield q (lines_to q to ws)
  unfolding lines_to lines_by
  lines_yield to ws a = lines_by_yield to (rescued q to ws) ws a

  apart_yield : (ws : List Way) → Ascends (by_node q) ws → AllYield q ws
  apart_yield [] a = tt
  apart_yield (w ∷ ws) a = (
    λ y m same total.
        let less : order q.open_ended w.last w.last ≡ Less = subst (λ x. order q.open_ended w.last x ≡ Less) (sym same) (a.0 y m) in
        let tied : order q.open_ended w.last w.last ≡ Equal = tied_itself (order_total q.open_ended) w.last in
        cc,
    apart_yield ws a.1,
  )

  kept_sound : (lines : List Way) → AllYield q lines → Covers q.open_ended (kept q lines) lines × Ascends (by_node q) (kept q lines)
  unfolding kept
  kept_sound lines y = (puts_cover q [] lines (λ v w m _. absurd m) y, puts_ascend q [] lines tt)

  new_nodes_are : (lines : List Way) → ((w : Way) → Among lines w → w.total <ℤ pos awful_bad) → new_nodes q lines ≡ filter (stands q lines) lines
  unfolding new_nodes
  new_nodes_are lines low =
      filter_same (λ w. stands q lines w && int_le w.total (pos (awful_bad - 1))) (stands q lines) lines
      (λ w m. let l = low w m in rw (le-int_le w.total (pos (awful_bad - 1)) (omega (arith, ints))) (and-true (stands q lines w)))

  sound_after : (place : ℕ) (nodes : List Way) → Sound q place nodes → Sound q (suc place) (after_place q (suc place) nodes)
  unfolding after_place
  sound_after place nodes s =
      let to = suc place in
      let old = open_ways q to (ways q place) in
      let all = lines_to q to old in
      let lines = lines_to q to nodes in
      let same : tried q to true nodes ≡ lines = tried_lines q to nodes s.ascends in
      let k = kept_sound lines (lines_yield to nodes s.ascends) in
      let best = kept q lines in
      let new = filter (stands q best) best in
      let on = filter (stays q to) nodes in
      let low : (w : Way) → Among best w → w.total <ℤ pos awful_bad =
      λ w m. lines_bound q to nodes (λ v n. ways_bound q place v (open_source q to (ways q place) v (s.covers.within v n))) w (k.0.within w m) in
      let made : new_nodes q (kept q (tried q to true nodes)) ≡ new = ap (λ x. new_nodes q (kept q x)) same ∙ new_nodes_are best low in
      let fresh : Covers q.open_ended new (filter (stands q all) all) = covers-trans (covers-standing q k.0) (covers-standing q (covers-lines q to s.covers)) in
      let survive : Covers q.open_ended on (filter (stays q to) old) = covers-filter (stays q to) (λ f w e _ h. ap (λ x. not (dies q to x)) e ∙ h) s.covers in
      let apart : (v w : Way) → Among on v → Among new w → Yields q v w =
      λ v w m n equal total.
      let here = ways_place q place v (open_source q to (ways q place) v (s.covers.within v (Among-passes (stays q to) nodes v m).0)) in
      let there = lines_place q to nodes w (k.0.within w (Among-passes (stands q best) best w n).0) in
      let both = ap (λ (x : Node). x.place) equal in
      absurd (omega arith) in
      let put_in = puts_cover q on new apart (apart_yield new (ascends_filter (by_node q) (stands q best) best k.1)) in
      subst (λ ws. Sound q to (fold (put q) on ws)) (sym made)
      (record {
        covers = subst (Covers q.open_ended (fold (put q) on new)) (sym (next_open q place)) (covers-trans put_in (covers-append survive fresh));
        ascends = puts_ascend q on new (ascends_filter (by_node q) (stays q to) nodes s.ascends);
      })

  start_stands : stands q (start q ∷ []) (start q) ≡ true
  unfolding stands start
  start_stands = and_from _ _ (or_right _ _ (le-int_le (pos 0) (pos 0 +ℤ pos q.slack) (omega (arith, ints)))) refl

  pub start_open : open_ways q 1 (ways q 0) ≡ start q ∷ []
  unfolding open_ways ways
  start_open = rw (start_stands, lives_new q 1 (start q).last (omega arith)) refl

  pub sound : (place : ℕ) → Sound q place (active q place)
  unfolding active
  sound zero = record { covers = subst (Covers q.open_ended (start q ∷ [])) (sym start_open) (covers-itself (start q ∷ [])); ascends = (λ y m. absurd m, tt) }
  sound (suc place) = sound_after place (active q place) (sound place)
