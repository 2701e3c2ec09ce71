-- The way that a pass gives at a looseness, found by the groups of the last nodes.
--     none_nearer, nearer_one    one more group in front of those that were looked at
--     no_way, no_group, way_loose    what the nodes give is the way of the pass, where it is taken
--     is_loose               a looseness other than 0
--     none_found, none_near, group_taken, group_left    the same of nodes at hand
use Rattle.std.proofs.Common.{◌≡◌, ◌≢◌, ℕ, ◌+◌, ◌-◌, ◌<◌, ◌≤◌, refl, ap, sym, ◌∙◌, cond, Bool, true, false, ◌||◌, List, [], ◌∷◌, map, filter, drop, length, get_or, Option, Some, None, option_map, ℤ, pos, ◌+ℤ◌, ◌-ℤ◌, unsigned_abs, nat_lt, inl, inr, arith}
use Rattle.std.specs.Ordering.{nat_cmp, on, int_eq, is_lt}
use Rattle.std.proofs.lemmas.Bool.Decides.{nat_tests}
use Rattle.std.proofs.lemmas.Int.{ints}
use Rattle.std.proofs.lemmas.List.{drop_more, drop_all}
use Rattle.line_break.specs.declared.node.Way.{Way}
use Rattle.line_break.specs.Best.{best, best_of_group, end_of, to_the_end}
use Rattle.line_break.specs.Laws.{of_group}
use Rattle.line_break.specs.Members.{Among, first_of_two}
use Rattle.line_break.specs.Pass.{Pass, group_of_line}
use Rattle.line_break.specs.Sweep.{active, first_of_least}
use Rattle.line_break.specs.Taken.{line_count, reaches_toward, nearest, actual_by, actual_looseness, reaches, is_taken, best_with, way_of}
use Rattle.line_break.proofs.BestWays.{best_is}
use Rattle.line_break.proofs.Ending.{chosen, chosen_of_group, nodes_reach, to_end_parts}
use Rattle.line_break.proofs.Loosening.{looseness_of_nodes}
use Rattle.line_break.proofs.MadeOfLines.{made_of_lines}
use Rattle.paragraph_breaks.specs.Nearness.{excess, distance, closer}
use Rattle.paragraph_breaks.specs.Passes.{taken_way}

abbrev pub Nearest : ℤ → ℕ → List ℕ → Option ℤ
Nearest l best groups = nearest l (filter (reaches_toward l) (map (excess best) groups))

less-is : (a b : ℕ) → is_lt (nat_cmp a b) ≡ nat_lt a b
less-is a b = grind (arith, nat_tests)

one-closer : (l : ℤ) (best group : ℕ) (found : Option ℕ)
    → option_map (excess best) (Some (closer l best group found))
    ≡ Some (first_of_two (on (λ (d : ℤ). unsigned_abs (l -ℤ d)) nat_cmp) (excess best group) (option_map (excess best) found))
one-closer l best group None = refl
one-closer l best group (Some other) =
    by (nat_lt (distance l best other) (distance l best group))
    ∙ ap (λ (t : Bool). Some (cond t (excess best other) (excess best group))) (sym (less-is (distance l best other) (distance l best group)))
  where
    by : (t : Bool) → Some (excess best (cond t other group)) ≡ Some (cond t (excess best other) (excess best group))
    by true = refl
    by false = refl

-- one more group in front
pub nearer_one : (l : ℤ) (best group : ℕ) (groups : List ℕ) (found : Option ℕ) → option_map (excess best) found ≡ Nearest l best groups
    → option_map (excess best) (cond (reaches_toward l (excess best group)) (Some (closer l best group found)) found)
    ≡ Nearest l best (group ∷ groups)
nearer_one l best group groups found is = by (reaches_toward l (excess best group))
  where
    by : (t : Bool) → option_map (excess best) (cond t (Some (closer l best group found)) found)
        ≡ nearest l (cond t (excess best group ∷ filter (reaches_toward l) (map (excess best) groups)) (filter (reaches_toward l) (map (excess best) groups)))
    by true =
        one-closer l best group found
        ∙ ap (λ (o : Option ℤ). Some (first_of_two (on (λ (d : ℤ). unsigned_abs (l -ℤ d)) nat_cmp) (excess best group) o)) is
    by false = is

pub nearer_step : (l : ℤ) (best : ℕ) (groups : List ℕ) (back group d : ℕ) (found : Option ℕ) → back < length groups
    → group ≡ get_or groups (length groups - 1 - back) d → option_map (excess best) found ≡ Nearest l best (drop (length groups - back) groups)
    → option_map (excess best) (cond (reaches_toward l (excess best group)) (Some (closer l best group found)) found)
    ≡ Nearest l best (drop (length groups - (back + 1)) groups)
nearer_step l best groups back group d found within read is =
    let i = length groups - 1 - back in
    let after : i + 1 ≡ length groups - back = omega arith in
    let here : i ≡ length groups - (back + 1) = omega arith in
    let split : drop i groups ≡ group ∷ drop (i + 1) groups =
    drop_more groups i d (omega arith) ∙ ap (λ (g : ℕ). g ∷ drop (i + 1) groups) (sym read) in
    nearer_one l best group (drop (i + 1) groups) found (is ∙ ap (λ (k : ℕ). Nearest l best (drop k groups)) (sym after))
    ∙ ap (Nearest l best) (sym split)
    ∙ ap (λ (k : ℕ). Nearest l best (drop k groups)) here

pub none_nearer : (l : ℤ) (best : ℕ) (groups : List ℕ) (k : ℕ) → length groups ≤ k → None ≡ Nearest l best (drop k groups)
none_nearer l best groups k past = ap (Nearest l best) (sym (drop_all k groups past))

module _ (q : Pass) (forced : q.forced (end_of q) ≡ true) (single : q.open_ended ≡ None) where
  counts : (w : Way) → Among (to_the_end q) w → w.last.group ≡ line_count w + 1
  counts w m =
      let r = to_end_parts q forced w m in
      (made_of_lines q (end_of q) w r.0).group ∙ ap (λ (ended : Option ℕ). group_of_line ended (line_count w + 1)) single

  same-excess : (b w : Way) → b.last.group ≡ line_count b + 1 → w.last.group ≡ line_count w + 1
      → (pos (line_count w) -ℤ pos (line_count b)) ≡ excess b.last.group w.last.group
  same-excess b w p r =
      let same : (pos (line_count w) -ℤ pos (line_count b)) ≡ (pos (line_count w + 1) -ℤ pos (line_count b + 1)) = omega (arith, ints) in
      same ∙ ap (λ (k : ℕ). pos k -ℤ pos (line_count b + 1)) (sym r) ∙ ap (λ (k : ℕ). pos w.last.group -ℤ pos k) (sym p)

  same-excesses : (b : Way) → b.last.group ≡ line_count b + 1 → (ws : List Way) → ((w : Way) → Among ws w → w.last.group ≡ line_count w + 1)
      → map (λ (w : Way). pos (line_count w) -ℤ pos (line_count b)) ws ≡ map (excess b.last.group) (map (λ (w : Way). w.last.group) ws)
  same-excesses b p [] all = refl
  same-excesses b p (w ∷ ws) all =
      ap (λ (d : ℤ). d ∷ map (λ (v : Way). pos (line_count v) -ℤ pos (line_count b)) ws) (same-excess b w p (all w (inl refl)))
      ∙ ap (λ (ds : List ℤ). excess b.last.group w.last.group ∷ ds) (same-excesses b p ws (λ v m. all v (inr m)))

  -- the actual looseness, by groups
  actual-is : (l : ℤ) (b : Way) → best q ≡ Some b
      → actual_looseness q l ≡ Nearest l b.last.group (map (λ (w : Way). w.last.group) (active q (end_of q)))
  actual-is l b is =
      let own = counts b (best_is q b is).within in
      sym (looseness_of_nodes q forced single l)
      ∙ ap (λ (o : Option Way). actual_by l o (active q (end_of q))) is
      ∙ ap (λ (ds : List ℤ). nearest l (filter (reaches_toward l) ds))
      (same-excesses b own (active q (end_of q)) (λ w m. counts w (nodes_reach q forced w m)))

  group-of : (b : Way) (group : ℕ) → b.last.group ≡ line_count b + 1
      → group_of_line q.open_ended (unsigned_abs (pos (line_count b + 1) +ℤ excess b.last.group group)) ≡ group
  group-of b group own =
      ap (λ (ended : Option ℕ). group_of_line ended (unsigned_abs (pos (line_count b + 1) +ℤ excess b.last.group group))) single
      ∙ ap (λ (k : ℕ). unsigned_abs (pos k +ℤ excess b.last.group group)) (sym own)
      ∙ back b.last.group group
    where
      back : (g h : ℕ) → unsigned_abs (pos g +ℤ (pos h -ℤ pos g)) ≡ h
      back g h = ap unsigned_abs (whole g h)
        where
          whole : (g h : ℕ) → (pos g +ℤ (pos h -ℤ pos g)) ≡ pos h
          whole g h = omega (arith, ints)

  not-none : (l : ℤ) → l ≢ pos 0 → int_eq l (pos 0) ≡ false
  not-none l other = by (int_eq l (pos 0)) refl
    where
      by : (t : Bool) → int_eq l (pos 0) ≡ t → t ≡ false
      by true e = absurd (other (grind (arith, ints)))
      by false e = refl

  taken-loose : (l : ℤ) → l ≢ pos 0
      → taken_way q l ≡ cond (reaches l (actual_looseness q l) || q.final) (best_with q (best q) (actual_looseness q l)) None
  unfolding taken_way is_taken way_of
  taken-loose l other =
      ap (λ (t : Bool). cond (t || reaches l (actual_looseness q l) || q.final) (cond t (best q) (best_with q (best q) (actual_looseness q l))) None)
      (not-none l other)

  none-anyway : (t : Bool) (w : Option Way) → cond t w w ≡ w
  none-anyway true w = refl
  none-anyway false w = refl

  pub no_way : (l : ℤ) → l ≢ pos 0 → best q ≡ None → None ≡ taken_way q l
  no_way l other none =
      sym (taken-loose l other
      ∙ ap (λ (o : Option Way). cond (reaches l (actual_looseness q l) || q.final) (best_with q o (actual_looseness q l)) None) none
      ∙ none-anyway (reaches l (actual_looseness q l) || q.final) None)

  by-actual : (l : ℤ) → l ≢ pos 0 → (b : Way) → best q ≡ Some b → (d : Option ℤ) → actual_looseness q l ≡ d
      → taken_way q l ≡ cond (reaches l d || q.final) (best_with q (Some b) d) None
  by-actual l other b is d actual =
      taken-loose l other
      ∙ ap (λ (o : Option Way). cond (reaches l (actual_looseness q l) || q.final) (best_with q o (actual_looseness q l)) None) is
      ∙ ap (λ (o : Option ℤ). cond (reaches l o || q.final) (best_with q (Some b) o) None) actual

  pub no_group : (l : ℤ) → l ≢ pos 0 → (b : Way) → best q ≡ Some b
      → None ≡ Nearest l b.last.group (map (λ (w : Way). w.last.group) (active q (end_of q))) → None ≡ taken_way q l
  no_group l other b is none =
      sym (by-actual l other b is None (actual-is l b is ∙ sym none) ∙ none-anyway (reaches l None || q.final) None)

  pub way_loose : (l : ℤ) → l ≢ pos 0 → (b : Way) → best q ≡ Some b → (group : ℕ)
      → option_map (excess b.last.group) (Some group) ≡ Nearest l b.last.group (map (λ (w : Way). w.last.group) (active q (end_of q)))
      → cond (q.final || int_eq (excess b.last.group group) l) (first_of_least (of_group group (active q (end_of q)))) None ≡ taken_way q l
  way_loose l other b is group near =
      let own = counts b (best_is q b is).within in
      let d = excess b.last.group group in
      sym (by-actual l other b is (Some d) (actual-is l b is ∙ sym near)
      ∙ ap (λ (g : ℕ). cond (int_eq d l || q.final) (best_of_group q g) None) (group-of b group own)
      ∙ ap (λ (o : Option Way). cond (int_eq d l || q.final) o None) (sym (chosen_of_group q forced group))
      ∙ either (int_eq d l) q.final)
    where
      either : (s t : Bool) → cond (s || t) (first_of_least (of_group group (active q (end_of q)))) None
          ≡ cond (t || s) (first_of_least (of_group group (active q (end_of q)))) None
      either true true = refl
      either true false = refl
      either false true = refl
      either false false = refl

-- what a pass over last nodes that are at hand comes to
module _ (q : Pass) (forced : q.forced (end_of q) ≡ true) (single : q.open_ended ≡ None) (l : ℤ) (other : l ≢ pos 0)
    (nodes : List Way) (are : nodes ≡ active q (end_of q)) where
  best-at : (o : Option Way) → o ≡ first_of_least nodes → best q ≡ o
  best-at o first = sym (first ∙ ap first_of_least are ∙ chosen q forced)

  near-at : (b : Way) (found : Option ℕ) (groups : List ℕ) → groups ≡ map (λ (w : Way). w.last.group) nodes
      → option_map (excess b.last.group) found ≡ Nearest l b.last.group groups
      → option_map (excess b.last.group) found ≡ Nearest l b.last.group (map (λ (w : Way). w.last.group) (active q (end_of q)))
  near-at b found groups own near =
      near ∙ ap (Nearest l b.last.group) (own ∙ ap (map (λ (w : Way). w.last.group)) are)

  pub none_found : None ≡ first_of_least nodes → None ≡ taken_way q l
  none_found none = no_way q forced single l other (best-at None none)

  pub none_near : (b : Way) (groups : List ℕ) → Some b ≡ first_of_least nodes → groups ≡ map (λ (w : Way). w.last.group) nodes
      → option_map (excess b.last.group) None ≡ Nearest l b.last.group groups → None ≡ taken_way q l
  none_near b groups some own near =
      no_group q forced single l other b (best-at (Some b) some) (near-at b None groups own near)

  pub group_near : (b : Way) (groups : List ℕ) (group : ℕ) → Some b ≡ first_of_least nodes → groups ≡ map (λ (w : Way). w.last.group) nodes
      → option_map (excess b.last.group) (Some group) ≡ Nearest l b.last.group groups
      → cond (q.final || int_eq (excess b.last.group group) l) (first_of_least (of_group group nodes)) None ≡ taken_way q l
  group_near b groups group some own near =
      ap (λ (ws : List Way). cond (q.final || int_eq (excess b.last.group group) l) (first_of_least (of_group group ws)) None) are
      ∙ way_loose q forced single l other b (best-at (Some b) some) group (near-at b (Some group) groups own near)

  pub group_taken : (b : Way) (groups : List ℕ) (group : ℕ) → Some b ≡ first_of_least nodes → groups ≡ map (λ (w : Way). w.last.group) nodes
      → option_map (excess b.last.group) (Some group) ≡ Nearest l b.last.group groups
      → (q.final || int_eq (excess b.last.group group) l) ≡ true → first_of_least (of_group group nodes) ≡ taken_way q l
  group_taken b groups group some own near taken =
      ap (λ (t : Bool). cond t (first_of_least (of_group group nodes)) None) (sym taken) ∙ group_near b groups group some own near

  pub group_left : (b : Way) (groups : List ℕ) (group : ℕ) → Some b ≡ first_of_least nodes → groups ≡ map (λ (w : Way). w.last.group) nodes
      → option_map (excess b.last.group) (Some group) ≡ Nearest l b.last.group groups
      → (q.final || int_eq (excess b.last.group group) l) ≡ false → None ≡ taken_way q l
  group_left b groups group some own near left =
      ap (λ (t : Bool). cond t (first_of_least (of_group group nodes)) None) (sym left) ∙ group_near b groups group some own near

pub is_loose : (l : ℤ) → int_eq l (pos 0) ≡ false → l ≢ pos 0
is_loose l is = λ (zero : l ≡ pos 0). absurd (grind (arith, ints, is, zero))
