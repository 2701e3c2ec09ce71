-- From a place to the next one.
--     Stepped                what trying and making leave
--     to_join, joined        the new nodes can be put among the others, and the list is then that after the place
use Rattle.std.proofs.Common.{◌≡◌, ◌≢◌, ℕ, suc, ◌+◌, ◌<◌, true, List, ◌++◌, map, filter, length, drop, Option, sym, ap, ◌∙◌, subst, add-one}
use Rattle.std.specs.List.{All, fold}
use Rattle.std.proofs.lemmas.List.Elements.{All-filter, All-weaker}
use Rattle.std.specs.declared.cmp.Ordering.TheVariants.{Equal}
use Rattle.line_break.specs.declared.node.Way.{Way}
use Rattle.line_break.specs.Members.{Among, Ascends}
use Rattle.line_break.specs.Pass.{Pass, order}
use Rattle.line_break.specs.Sweep.{tried, put, kept, new_nodes, active}
use Rattle.line_break.proofs.MemberLemmas.{Among-mapped}
use Rattle.break_sweep.specs.declared.made.Made.{Made}
use Rattle.break_sweep.specs.Made.{way_of, ways_of, listed, IsFound, AreActive}
use Rattle.break_sweep.specs.Standing.{is_made}
use Rattle.break_sweep.specs.Joining.{IsToJoin}
use Rattle.break_sweep.proofs.NodeWays.{new_ways, listed_more}
use Rattle.break_sweep.proofs.Actives.{stays, living_ascend, new_ascend, apart_at, new_nodes_are, active_more, found_among}

pub record Stepped (q : Pass) (place : ℕ) (before : List Made) (indices living : List ℕ) (best nodes : List Made) : Type 0 where
  pub active : AreActive q place before indices
  pub lived : listed (ways_of before) living ≡ filter (stays q (place + 1)) (listed (ways_of before) indices)
  pub named : All (λ i. i < length before) living
  pub recorded : map (way_of (ways_of before)) best ≡ kept q (tried q (place + 1) true (listed (ways_of before) indices))
  pub found : All (IsFound (place + 1) (length before)) best
  pub made : nodes ≡ before ++ filter (is_made q.slack best) best

module _ (q : Pass) (place : ℕ) (before : List Made) (indices living : List ℕ) (best nodes : List Made) (s : Stepped q place before indices living best nodes) where
  abbrev new : List Made
  new = filter (is_made q.slack best) best

  new_found : All (IsFound (place + 1) (length before)) new
  new_found = All-filter (is_made q.slack best) (IsFound (place + 1) (length before)) best s.found

  new_before : All (λ m. m.before < length before) new
  new_before = All-weaker (IsFound (place + 1) (length before)) (λ m. m.before < length before) (λ m f. f.before) new new_found

  new_are : map (way_of (ways_of before)) new ≡ new_nodes q (kept q (tried q (suc place) true (active q place)))
  new_are =
      sym (new_nodes_are q (ways_of before) best)
      ∙ ap (new_nodes q) (s.recorded
      ∙ (ap (λ k. kept q (tried q k true (listed (ways_of before) indices))) (add-one place)
      ∙ ap (λ ws. kept q (tried q (suc place) true ws)) s.active.spelled))

  fresh : drop (length before) (ways_of nodes) ≡ map (way_of (ways_of before)) new
  fresh = ap (λ ms. drop (length before) (ways_of ms)) s.made ∙ new_ways before new new_before

  lived_is : listed (ways_of nodes) living ≡ filter (stays q (suc place)) (active q place)
  lived_is =
      ap (λ ms. listed (ways_of ms) living) s.made
      ∙ (listed_more before new living new_before s.named
      ∙ (s.lived
      ∙ (ap (λ k. filter (stays q k) (listed (ways_of before) indices)) (add-one place)
      ∙ ap (filter (stays q (suc place))) s.active.spelled)))

  clear : (v w : Way) → Among (filter (stays q (suc place)) (active q place)) v → Among (map (way_of (ways_of before)) new) w → order q.open_ended w.last v.last ≢ Equal
  clear v w m n =
      let k = Among-mapped (way_of (ways_of before)) new w n in
      let f = found_among (IsFound (place + 1) (length before)) new k.0 new_found k.1 in
      let at : w.last.place ≡ suc place = ap (λ (x : Way). x.last.place) k.2 ∙ (f.place ∙ add-one place) in
      apart_at q place v w.last m at

  pub to_join : (ended : Option ℕ) (ms : List Made) (is : List ℕ) (first : ℕ) → ended ≡ q.open_ended → ms ≡ nodes → is ≡ living → first ≡ length before
      → IsToJoin ended (listed (ways_of ms) is) (drop first (ways_of ms))
  to_join ended ms is first e f g h =
      let made : IsToJoin q.open_ended (filter (stays q (suc place)) (active q place)) (map (way_of (ways_of before)) new) = record {
        old_ascend = living_ascend q place (suc place);
        fresh_ascend = subst (Ascends (λ (v w : Way). order q.open_ended v.last w.last)) (sym new_are) (new_ascend q (tried q (suc place) true (active q place)));
        apart = clear;
      } in
      let old : filter (stays q (suc place)) (active q place) ≡ listed (ways_of ms) is = sym (ap (λ l. listed (ways_of l) is) f ∙ (ap (listed (ways_of nodes)) g ∙ lived_is)) in
      let new_ones : map (way_of (ways_of before)) new ≡ drop first (ways_of ms) = sym (ap (λ l. drop first (ways_of l)) f ∙ (ap (λ k. drop k (ways_of nodes)) h ∙ fresh)) in
      subst (λ o. IsToJoin o (listed (ways_of ms) is) (drop first (ways_of ms))) (sym e)
      (subst (λ l. IsToJoin q.open_ended l (drop first (ways_of ms))) old
      (subst (IsToJoin q.open_ended (filter (stays q (suc place)) (active q place))) new_ones made))

  pub joined : (ms : List Made) (is after : List ℕ) (first : ℕ) → ms ≡ nodes → is ≡ living → first ≡ length before
      → listed (ways_of ms) after ≡ fold (put q) (listed (ways_of ms) is) (drop first (ways_of ms))
      → listed (ways_of nodes) after ≡ active q (place + 1)
  joined ms is after first f g h e =
      active_more q place (listed (ways_of nodes) after) (listed (ways_of nodes) living) (drop (length before) (ways_of nodes))
      (subst (λ l. listed (ways_of l) after ≡ fold (put q) (listed (ways_of l) living) (drop (length before) (ways_of l))) f
      (e ∙ (ap (λ l. fold (put q) (listed (ways_of ms) l) (drop first (ways_of ms))) g ∙ ap (λ k. fold (put q) (listed (ways_of ms) living) (drop k (ways_of ms))) h)))
      lived_is (fresh ∙ new_are)
