-- Looseness, where each line is a group of its own.
--     looseness_of_nodes        the actual looseness is that of the last list of active nodes
--     as_many_lines             no way with as many lines has a lower total
--     way_found                 a final pass gives a way at each looseness
use Rattle.std.proofs.Common.{◌≡◌, ℕ, ◌+◌, Bool, true, false, cond, ◌&&◌, List, [], ◌∷◌, map, Option, Some, None, ℤ, pos, negsuc, ◌+ℤ◌, ◌-ℤ◌, ◌≤ℤ◌, refl, sym, ap, ◌∙◌, subst, inl, inr, ⊎_elim, arith}
use Rattle.std.specs.Prelude.{◌⊎◌, ◌==◌, int_le, unsigned_abs}
use Rattle.std.specs.Cmp.{IsTotalOrder}
use Rattle.std.specs.Ordering.{nat_cmp, on, int_eq}
use Rattle.std.proofs.lemmas.Bool.{and_parts, and_from, or_cases, or_left, or_right, eqb-true, eq-eqb}
use Rattle.std.proofs.lemmas.Cmp.{nat_cmp_total, on_total}
use Rattle.std.proofs.lemmas.Int.{ints}
use Rattle.line_break.specs.declared.node.Way.{Way}
use Rattle.line_break.specs.Members.{Among}
use Rattle.line_break.specs.Pass.{Pass, group_of_line}
use Rattle.line_break.specs.Best.{end_of, to_the_end, best, best_of_group}
use Rattle.line_break.specs.Taken.{line_count, reaches_toward, excesses, nearest, actual_by, actual_looseness, best_with, way_of}
use Rattle.line_break.specs.Sweep.{active}
use Rattle.line_break.specs.Laws.{of_group}
use Rattle.line_break.proofs.MemberLemmas.{Among-filter, Among-passes, Among-map, Among-mapped, firsts_tied, has_first}
use Rattle.line_break.proofs.OrderLemmas.{abs-up, abs-down, int_le-true, le-int_le, nat_cmp-same, preference_total}
use Rattle.line_break.proofs.MadeOfLines.{made_of_lines}
use Rattle.line_break.proofs.Ending.{to_end_parts, nodes_reach, best_stands, no_members}
use Rattle.line_break.proofs.Reaching.{reaches}
use Rattle.line_break.proofs.BestWays.{best_is, best_of_group_is}

abbrev IsToward : ℤ → ℤ → Type 0
IsToward l d = ((pos 0 ≤ℤ d) × (d ≤ℤ l)) ⊎ ((l ≤ℤ d) × (d ≤ℤ pos 0))

toward : (l d : ℤ) → reaches_toward l d ≡ true → IsToward l d
toward l d e = ⊎_elim
    (λ (u : (int_le (pos 0) d && int_le d l) ≡ true). let k = and_parts (int_le (pos 0) d) (int_le d l) u in inl (int_le-true (pos 0) d k.0, int_le-true d l k.1))
    (λ (u : (int_le l d && int_le d (pos 0)) ≡ true). let k = and_parts (int_le l d) (int_le d (pos 0)) u in inr (int_le-true l d k.0, int_le-true d (pos 0) k.1))
    (or_cases (int_le (pos 0) d && int_le d l) (int_le l d && int_le d (pos 0)) e)

nearness_same : (l a b : ℤ) → IsToward l a → IsToward l b → unsigned_abs (l -ℤ a) ≡ unsigned_abs (l -ℤ b) → a ≡ b
nearness_same l a b (inl u) (inl v) e =
    let f = abs-up (l -ℤ a) (omega (arith, ints)) in let g = abs-up (l -ℤ b) (omega (arith, ints)) in omega (arith, ints)
nearness_same l a b (inl u) (inr v) e =
    let f = abs-up (l -ℤ a) (omega (arith, ints)) in let g = abs-down (l -ℤ b) (omega (arith, ints)) in omega (arith, ints)
nearness_same l a b (inr u) (inl v) e =
    let f = abs-down (l -ℤ a) (omega (arith, ints)) in let g = abs-up (l -ℤ b) (omega (arith, ints)) in omega (arith, ints)
nearness_same l a b (inr u) (inr v) e =
    let f = abs-down (l -ℤ a) (omega (arith, ints)) in let g = abs-down (l -ℤ b) (omega (arith, ints)) in omega (arith, ints)

nearness_total : (l : ℤ) → IsTotalOrder (on (λ (d : ℤ). unsigned_abs (l -ℤ d)) nat_cmp)
nearness_total l = on_total (λ (d : ℤ). unsigned_abs (l -ℤ d)) nat_cmp_total

nearest_same : (l : ℤ) (ds es : List ℤ) → ((d : ℤ) → Among ds d → reaches_toward l d ≡ true) → ((d : ℤ) → Among ds d → Among es d) → ((d : ℤ) → Among es d → Among ds d) → nearest l ds ≡ nearest l es
nearest_same l ds [] near there back =
    let none = no_members ds (λ d m. there d m) in ap (nearest l) none
nearest_same l ds (e ∷ es) near there back =
    let total = nearness_total l in
    let b = has_first total (e ∷ es) e (inl refl) in
    let a = has_first total ds b.0 (back b.0 b.2.within) in
    let tie = nat_cmp-same (unsigned_abs (l -ℤ a.0)) (unsigned_abs (l -ℤ b.0)) (firsts_tied total ds (e ∷ es) a.0 b.0 a.2 b.2 (there a.0 a.2.within) (back b.0 b.2.within)) in
    let same = nearness_same l a.0 b.0 (toward l a.0 (near a.0 a.2.within)) (toward l b.0 (near b.0 (back b.0 b.2.within))) tie in
    a.1 ∙ (ap Some same ∙ sym b.1)

module _ (q : Pass) (forced : q.forced (end_of q) ≡ true) (single : q.open_ended ≡ None) where
  group_counts : (w : Way) → Among (to_the_end q) w → w.last.group ≡ line_count w + 1
  group_counts w m =
      let r = to_end_parts q forced w m in
      (made_of_lines q (end_of q) w r.0).group ∙ ap (λ ended. group_of_line ended (line_count w + 1)) single

  of_group_from : (group : ℕ) (w : Way) → Among (to_the_end q) w → w.last.group ≡ group → Among (of_group group (to_the_end q)) w
  of_group_from group w m e = Among-filter (λ v. v.last.group == group) (to_the_end q) w m (eq-eqb w.last.group group e)

  of_group_parts : (group : ℕ) (w : Way) → Among (of_group group (to_the_end q)) w → Among (to_the_end q) w × (w.last.group ≡ group)
  of_group_parts group w m = let k = Among-passes (λ v. v.last.group == group) (to_the_end q) w m in (k.0, eqb-true w.last.group group k.1)

  -- each way to the end has as many lines as one of the last list
  matched : (w : Way) → Among (to_the_end q) w → (v : Way) × Among (active q (end_of q)) v × (line_count v ≡ line_count w)
  matched w m =
      let g = w.last.group in
      let f = has_first (preference_total q.open_ended) (of_group g (to_the_end q)) w (of_group_from g w m refl) in
      let p = of_group_parts g f.0 f.2.within in
      let there = best_stands q forced (of_group g (to_the_end q)) (λ v n. (of_group_parts g v n).0)
      (λ v u n r e. of_group_from g v r (e ∙ (of_group_parts g u n).1)) f.0 f.2 in
      let a = group_counts w m in
      let b = group_counts f.0 p.0 in
      let e = p.1 in
      (f.0, there, omega arith)

  actual_same : (l : ℤ) (o : Option Way) → actual_by l o (active q (end_of q)) ≡ actual_by l o (to_the_end q)
  actual_same l None = refl
  actual_same l (Some b) =
      let g : Way → ℤ = λ w. pos (line_count w) -ℤ pos (line_count b) in
      let nodes = active q (end_of q) in
      let all = to_the_end q in
      nearest_same l (excesses l b nodes) (excesses l b all)
      (λ d m. (Among-passes (reaches_toward l) (map g nodes) d m).1)
      (λ d m.
      let p = Among-passes (reaches_toward l) (map g nodes) d m in
      let k = Among-mapped g nodes d p.0 in
      Among-filter (reaches_toward l) (map g all) d (subst (Among (map g all)) (sym k.2) (Among-map g all k.0 (nodes_reach q forced k.0 k.1))) p.1)
      (λ d m.
      let p = Among-passes (reaches_toward l) (map g all) d m in
      let k = Among-mapped g all d p.0 in
      let v = matched k.0 k.1 in
      let e : d ≡ g v.0 = k.2 ∙ ap (λ n. pos n -ℤ pos (line_count b)) (sym v.2) in
      Among-filter (reaches_toward l) (map g nodes) d (subst (Among (map g nodes)) (sym e) (Among-map g nodes v.0 v.1)) p.1)

  pub looseness_of_nodes : (l : ℤ) → actual_by l (best q) (active q (end_of q)) ≡ actual_looseness q l
  unfolding actual_looseness
  looseness_of_nodes l = actual_same l (best q)

  as_many_of_group : (group : ℕ) (b w : Way) → best_of_group q group ≡ Some b → Among (to_the_end q) w → line_count w ≡ line_count b → b.total ≤ℤ w.total
  as_many_of_group group b w e m n =
      let f = best_of_group_is q group b e in
      let p = of_group_parts group b f.within in
      let u = group_counts b p.0 in
      let v = group_counts w m in
      let k = p.1 in
      f.least w (of_group_from group w m (omega arith))

  as_many_with : (o : Option Way) (d : Option ℤ) (b w : Way) → best_with q o d ≡ Some b → Among (to_the_end q) w → line_count w ≡ line_count b → b.total ≤ℤ w.total
  as_many_with None d b w e m n = cc
  as_many_with (Some a) None b w e m n = cc
  as_many_with (Some a) (Some d) b w e m n = as_many_of_group _ b w e m n

  pub as_many_lines : (l : ℤ) (b w : Way) → way_of q l ≡ Some b → Among (to_the_end q) w → line_count w ≡ line_count b → b.total ≤ℤ w.total
  unfolding way_of
  as_many_lines l b w e m n = by (int_eq l (pos 0)) e
    where
      by : (t : Bool) → cond t (best q) (best_with q (best q) (actual_looseness q l)) ≡ Some b → b.total ≤ℤ w.total
      by true k = (best_is q b k).least w m
      by false k = as_many_with (best q) (actual_looseness q l) b w k m n

  toward_none : (l d : ℤ) → d ≡ pos 0 → reaches_toward l d ≡ true
  toward_none l d e = ⊎_elim
      (λ (h : pos 0 ≤ℤ l). or_left _ _ (and_from _ _ (le-int_le (pos 0) d (omega (arith, ints))) (le-int_le d l (omega (arith, ints)))))
      (λ (h : l ≤ℤ pos 0). or_right _ _ (and_from _ _ (le-int_le l d (omega (arith, ints))) (le-int_le d (pos 0) (omega (arith, ints)))))
      (either l)
    where
      either : (z : ℤ) → (pos 0 ≤ℤ z) ⊎ (z ≤ℤ pos 0)
      either (pos n) = inl (omega (arith, ints))
      either (negsuc n) = inr (omega (arith, ints))

  pub way_found : q.final ≡ true → (l : ℤ) → (b : Way) × (way_of q l ≡ Some b)
  unfolding way_of best_of_group actual_looseness
  way_found final l = by (int_eq l (pos 0))
    where
      way_with : (b w : Way) (d : ℤ) → Among (to_the_end q) w → d ≡ pos (line_count w) -ℤ pos (line_count b) → (v : Way) × (best_with q (Some b) (Some d) ≡ Some v)
      way_with b w d m e =
          let lines : unsigned_abs (pos (line_count b + 1) +ℤ d) ≡ line_count w + 1 =
          (let up = abs-up (pos (line_count b + 1) +ℤ d) (omega (arith, ints)) in omega (arith, ints)) in
          let group = ap (λ ended. group_of_line ended (unsigned_abs (pos (line_count b + 1) +ℤ d))) single ∙ (lines ∙ sym (group_counts w m)) in
          let f = has_first (preference_total q.open_ended) (of_group (group_of_line q.open_ended (unsigned_abs (pos (line_count b + 1) +ℤ d))) (to_the_end q)) w (of_group_from _ w m (sym group)) in
          (f.0, f.1)

      by : (t : Bool) → (b : Way) × (cond t (best q) (best_with q (best q) (actual_by l (best q) (to_the_end q))) ≡ Some b)
      by true = reaches q final forced
      by false =
          let r = reaches q final forced in
          let b = r.0 in
          let in_all = (best_is q b r.1).within in
          let g : Way → ℤ = λ w. pos (line_count w) -ℤ pos (line_count b) in
          let all = to_the_end q in
          let none : g b ≡ pos 0 = omega (arith, ints) in
          let here = Among-filter (reaches_toward l) (map g all) (g b) (Among-map g all b in_all) (toward_none l (g b) none) in
          let f = has_first (nearness_total l) (excesses l b all) (g b) here in
          let p = Among-passes (reaches_toward l) (map g all) f.0 f.2.within in
          let k = Among-mapped g all f.0 p.0 in
          let v = way_with b k.0 f.0 k.1 k.2 in
          (v.0, ap (λ o. best_with q o (actual_by l o all)) r.1 ∙ (ap (best_with q (Some b)) f.1 ∙ v.1))
