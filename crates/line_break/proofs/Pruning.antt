-- Where no place is rescued, the ways cover all ways, none left out for its total.
--     covers-unpruned           up to each place
--     best-unpruned             and the best way is the best of all
use Rattle.std.proofs.Common.{◌≡◌, ℕ, zero, suc, ◌≤◌, Bool, true, false, not, ◌&&◌, ◌||◌, List, [], map, filter, Option, Some, None, ℤ, pos, ◌+ℤ◌, ◌<ℤ◌, refl, sym, ap, ◌∙◌, subst, arith}
use Rattle.std.specs.Prelude.{◌==◌, nat_le, int_le}
use Rattle.std.specs.declared.cmp.Ordering.TheVariants.{Equal}
use Rattle.std.specs.Ordering.{is_gt}
use Rattle.std.proofs.lemmas.Bool.{and_parts, and_from, or_left, or_right, or_parts, not-false, eqb-true, eq-eqb}
use Rattle.std.proofs.lemmas.Cmp.{upto}
use Rattle.std.proofs.lemmas.Int.{ints}
use Rattle.line_break.specs.declared.node.Node.{Node}
use Rattle.line_break.specs.declared.node.Way.{Way}
use Rattle.line_break.specs.Members.{Among, first_by}
use Rattle.line_break.specs.Pass.{Pass, next_group}
use Rattle.line_break.specs.Ways.{extended, dies, lives, same_start, stands, open_ways, records, rescued, lines_to, ways, open_to, is_rescued, awful_bad}
use Rattle.line_break.specs.Best.{preference, end_of, to_the_end, best}
use Rattle.line_break.specs.Unpruned.{unpruned, unpruned_to_the_end, best_unpruned}
use Rattle.line_break.specs.Laws.{IsAlmostBlind, IsQuiet}
use Rattle.line_break.proofs.MemberLemmas.{Among-filter, Among-passes, Among-map, Among-mapped, all_from, all_fails, tied_both, itself_not_greater, has_first}
use Rattle.line_break.proofs.OrderLemmas.{int_le-false, le-int_le, int_lt-true, lt-int_lt, preference_total, way_same, preferred_total, lower_preferred, preference-extended, extended_node}
use Rattle.line_break.proofs.Covering.{Covers, HasNoWorse, covers-itself, covers-append, covers-filter, records_below}
use Rattle.line_break.proofs.Ending.{same_start-true, open_parts, open_from, first_by_some, first_by_none, first_by_only, no_members}

module _ (q : Pass) where
  dies_alike : (to : ℕ) (x y : Node) → x.place ≡ y.place → x.group ≡ y.group → dies q to x ≡ dies q to y
  unfolding dies
  dies_alike to x y p g = ap (λ k. q.forced to || (q.badness k x.group to == 10001)) p ∙ ap (λ k. q.forced to || (q.badness y.place k to == 10001)) g

  lives_alike : (to : ℕ) (x y : Node) → x.place ≡ y.place → x.group ≡ y.group → lives q to x ≡ lives q to y
  unfolding lives
  lives_alike zero x y p g = refl
  lives_alike (suc to) x y p g =
      let rest = lives_alike to x y p g in
      let here = dies_alike to x y p g in
      let past = ap (nat_le to) p in
      rw (rest, here, past) refl

  alike_node : (to : ℕ) (d e : ℤ) (v w : Way) → v.last.place ≡ w.last.place → v.last.group ≡ w.last.group → (extended q to d v).last ≡ (extended q to e w).last
  unfolding extended
  alike_node to d e v w p g =
      let made : ℕ → ℕ → Node = λ place group. record { place = to; group = next_group q.open_ended group; class = q.class place group to } in
      ap (λ k. made k v.last.group) p ∙ ap (made w.last.place) g

  lower_line : (to : ℕ) (v w : Way) → (v.total +ℤ q.demerits v.last to) <ℤ (w.total +ℤ q.demerits w.last to) → is_gt (preference q.open_ended (extended q to (q.demerits v.last to) v) (extended q to (q.demerits w.last to) w)) ≡ false
  unfolding extended
  lower_line to v w h = ap is_gt (lower_preferred q.open_ended (extended q to (q.demerits v.last to) v) (extended q to (q.demerits w.last to) w) h)

  abbrev more : ℕ → Way → Way
  more to w = extended q to (q.demerits w.last to) w

  -- a way that stands in the place and group of w, from which the line is recorded and is no worse
  record HasStanding (to : ℕ) (ws : List Way) (w : Way) : Type 0 where
    way : Way
    within : Among ws way
    stand : stands q ws way ≡ true
    place : way.last.place ≡ w.last.place
    group : way.last.group ≡ w.last.group
    recorded : records q to way ≡ true
    no_worse : is_gt (preference q.open_ended (more to way) (more to w)) ≡ false

  records_alike : (to : ℕ) (v w : Way) → v.last.place ≡ w.last.place → v.last.group ≡ w.last.group → (v.total +ℤ q.demerits v.last to) <ℤ (w.total +ℤ q.demerits w.last to) → records q to w ≡ true → records q to v ≡ true
  unfolding records
  records_alike to v w p g less e =
      let k = and_parts (int_le (pos (q.badness w.last.place w.last.group to)) q.threshold) _ e in
      let below = int_lt-true (w.total +ℤ q.demerits w.last to) (pos awful_bad) k.1 in
      let bad : q.badness v.last.place v.last.group to ≡ q.badness w.last.place w.last.group to = ap (λ k. q.badness k v.last.group to) p ∙ ap (λ k. q.badness w.last.place k to) g in
      and_from _ _ (ap (λ b. int_le (pos b) q.threshold) bad ∙ k.0) (lt-int_lt (v.total +ℤ q.demerits v.last to) (pos awful_bad) (omega (arith, ints)))

  standing_by : IsAlmostBlind q → (to : ℕ) (ws : List Way) (w : Way) → Among ws w → records q to w ≡ true → (t : Bool) → stands q ws w ≡ t → HasStanding to ws w
  unfolding stands
  standing_by blind to ws w m r true e = record {
    way = w;
    within = m;
    stand = e;
    place = refl;
    group = refl;
    recorded = r;
    no_worse = itself_not_greater (preference_total q.open_ended) (more to w);
  }
  standing_by blind to ws w m r false e =
      let near : Way → Bool = λ v. same_start v.last w.last in
      let f = has_first (preference_total q.open_ended) (filter near ws) w (Among-filter near ws w m (and_from _ _ (eq-eqb w.last.place w.last.place refl) (eq-eqb w.last.group w.last.group refl))) in
      let b = f.0 in
      let in_ws = Among-passes near ws b f.2.within in
      let alike = same_start-true b.last w.last in_ws.1 in
      let bad = all_fails (λ u. not (near u) || int_le w.total (u.total +ℤ pos q.slack)) ws e in
      let u = bad.0 in
      let p = or_parts (not (near u)) (int_le w.total (u.total +ℤ pos q.slack)) bad.2 in
      let low = preferred_total q.open_ended b u (f.2.least u (Among-filter near ws u bad.1 (not-false (near u) p.0))) in
      let far = int_le-false w.total (u.total +ℤ pos q.slack) p.1 in
      let close = blind b.last w.last to alike.0 alike.1 in
      let less : (b.total +ℤ q.demerits b.last to) <ℤ (w.total +ℤ q.demerits w.last to) = omega (arith, ints) in
      let good : Way → Bool = λ v. not (same_start v.last b.last) || int_le b.total (v.total +ℤ pos q.slack) in
      let by : (v : Way) → Among ws v → (t : Bool) → same_start v.last b.last ≡ t → good v ≡ true =
      λ v n t. elim t as (λ x. same_start v.last b.last ≡ x → good v ≡ true) [
        | true ↦ λ k.
            let s = same_start-true v.last b.last k in
            let here = and_from (v.last.place == w.last.place) (v.last.group == w.last.group) (eq-eqb _ _ (s.0 ∙ alike.0)) (eq-eqb _ _ (s.1 ∙ alike.1)) in
            let le = preferred_total q.open_ended b v (f.2.least v (Among-filter near ws v n here)) in
            or_right _ _ (le-int_le b.total (v.total +ℤ pos q.slack) (omega (arith, ints)))
        | false ↦ λ k. or_left _ _ (ap not k)
      ] in
      record {
        way = b;
        within = in_ws.0;
        stand = all_from good ws (λ v n. by v n (same_start v.last b.last) refl);
        place = alike.0;
        group = alike.1;
        recorded = records_alike to b w alike.0 alike.1 less r;
        no_worse = lower_line to b w less;
      }

  covers-more : IsAlmostBlind q → (to : ℕ) (few many : List Way) → Covers q.open_ended few many
      → Covers q.open_ended (map (more to) (filter (records q to) (open_ways q to few))) (map (more to) (filter (λ w. lives q to w.last && records q to w) many))
  covers-more blind to few many a =
      let here = filter (records q to) (open_ways q to few) in
      let there = filter (λ w. lives q to w.last && records q to w) many in
      record {
        within = λ w m.
            let k = Among-mapped (more to) here w m in
            let p = Among-passes (records q to) (open_ways q to few) k.0 k.1 in
            let o = open_parts q to few k.0 p.0 in
            subst (Among (map (more to) there)) (sym k.2)
            (Among-map (more to) there k.0 (Among-filter (λ v. lives q to v.last && records q to v) many k.0 (a.within k.0 o.0) (and_from _ _ o.2 p.1)));
        covered = λ w m.
            let k = Among-mapped (more to) there w m in
            let p = Among-passes (λ v. lives q to v.last && records q to v) many k.0 k.1 in
            let r = and_parts (lives q to k.0.last) (records q to k.0) p.1 in
            let f = a.covered k.0 p.0 in
            let total = preferred_total q.open_ended f.0 k.0 f.3 in
            let s = standing_by blind to few f.0 f.1 (records_below q to f.0 k.0 f.2 total r.1) (stands q few f.0) refl in
            let alive = lives_alike to s.way.last f.0.last s.place s.group ∙ (ap (lives q to) f.2 ∙ r.0) in
            let o = open_from q to few s.way s.within s.stand alive in
            let same : is_gt (preference q.open_ended (more to f.0) (more to k.0)) ≡ false =
            subst (λ x. is_gt (preference q.open_ended (extended q to (q.demerits x to) f.0) (more to k.0)) ≡ false) (sym f.2)
            (ap is_gt (preference-extended q to (q.demerits k.0.last to) f.0 k.0 f.2) ∙ f.3) in
            subst (HasNoWorse q.open_ended (map (more to) here)) (sym k.2) (
              more to s.way,
              Among-map (more to) here s.way (Among-filter (records q to) (open_ways q to few) s.way o s.recorded),
              alike_node to _ _ s.way f.0 s.place s.group ∙ extended_node q to (q.demerits f.0.last to) (q.demerits k.0.last to) f.0 k.0 f.2,
              upto (preference_total q.open_ended) (more to s.way) (more to f.0) (more to k.0) s.no_worse same,
            );
      }

  lines_plain : (to : ℕ) (ws : List Way) → rescued q to ws ≡ false → lines_to q to ws ≡ map (more to) (filter (records q to) ws)
  unfolding lines_to
  lines_plain to ws e = rw e refl

  pub covers-unpruned : IsAlmostBlind q → (place : ℕ) → ((k : ℕ) → k ≤ place → is_rescued q k ≡ false) → Covers q.open_ended (ways q place) (unpruned q place)
  unfolding ways unpruned is_rescued open_to
  covers-unpruned blind zero quiet = covers-itself _
  covers-unpruned blind (suc place) quiet =
      let before = covers-unpruned blind place (λ k h. quiet k (omega arith)) in
      covers-append before
      (subst (λ ws. Covers q.open_ended ws (map (more (suc place)) (filter (λ w. lives q (suc place) w.last && records q (suc place) w) (unpruned q place))))
      (sym (lines_plain (suc place) (open_ways q (suc place) (ways q place)) (quiet (suc place) (omega arith))))
      (covers-more blind (suc place) (ways q place) (unpruned q place) before))

  covers_first : (few many : List Way) (place : ℕ) → Covers q.open_ended few many → ((w : Way) → Among many w → w.last.place ≡ place) → first_by (preference q.open_ended) few ≡ first_by (preference q.open_ended) many
  covers_first few many place a at = by (first_by (preference q.open_ended) many) refl
    where
      by : (o : Option Way) → first_by (preference q.open_ended) many ≡ o → first_by (preference q.open_ended) few ≡ first_by (preference q.open_ended) many
      by None e =
          let none = first_by_none (preference q.open_ended) many e in
          let empty : few ≡ [] = no_members few (λ w m. subst (λ ws. Among ws w) none (a.within w m)) in
          rw (empty, none) refl
      by (Some b) e =
          let total = preference_total q.open_ended in
          let f = first_by_some total many b e in
          let c = a.covered b f.within in
          let once = λ (x : Way) (m : Among few x) (t : preference q.open_ended x b ≡ Equal). way_same q.open_ended x b (at x (a.within x m) ∙ sym (at b f.within)) t in
          let same = once c.0 c.1 (tied_both total c.0 b c.3 (f.least c.0 (a.within c.0 c.1))) in
          first_by_only total few b once (record { within = subst (Among few) same c.1; least = λ w m. f.least w (a.within w m) }) ∙ sym e

  pub best-unpruned : IsAlmostBlind q → IsQuiet q → best q ≡ best_unpruned q
  unfolding best to_the_end best_unpruned unpruned_to_the_end
  best-unpruned blind quiet =
      let n = end_of q in
      let ends : Way → Bool = λ w. w.last.place == n in
      let a = covers-filter ends (λ f w e _ h. ap (λ (x : Node). x.place == n) e ∙ h) (covers-unpruned blind n quiet) in
      covers_first (filter ends (ways q n)) (filter ends (unpruned q n)) n a (λ w m. eqb-true w.last.place n (Among-passes ends (unpruned q n) w m).1)
