-- A final pass has no dead end.
--     open_not_empty            some way is open to each place
--     open_to_some, reaches     said otherwise, and there is a best way
use Rattle.std.proofs.Common.{◌≡◌, ℕ, zero, suc, Bool, true, false, not, ◌&&◌, ◌||◌, List, [], ◌∷◌, filter, Some, pos, ◌+ℤ◌, refl, sym, ap, subst, inl, arith}
use Rattle.std.specs.Prelude.{int_le}
use Rattle.std.specs.List.{list_all}
use Rattle.std.specs.declared.cmp.Ordering.{Ordering}
use Rattle.std.specs.declared.cmp.Ordering.TheVariants.{Less, Equal, Greater}
use Rattle.std.specs.Ordering.{is_lt, is_gt, ordering_reverse}
use Rattle.std.proofs.lemmas.Bool.{false≢true, and_from, or_right}
use Rattle.std.proofs.lemmas.Cmp.{on_total, back_total}
use Rattle.std.proofs.lemmas.Int.{ints}
use Rattle.line_break.specs.declared.node.Way.{Way}
use Rattle.line_break.specs.Members.{Among, is_empty}
use Rattle.line_break.specs.Pass.{Pass, order}
use Rattle.line_break.specs.Ways.{start, extended, dies, same_start, stands, open_ways, records, is_last, rescued, lines_to, ways, open_to}
use Rattle.line_break.specs.Best.{end_of, to_the_end, best}
use Rattle.line_break.proofs.MemberLemmas.{Among-append_left, Among-append_right, Among-filter, Among-map, all_from, all_fails, has_first}
use Rattle.line_break.proofs.OrderLemmas.{le-int_le, order_total, preference_total, preferred_total}
use Rattle.line_break.proofs.Covering.{lines_by}
use Rattle.line_break.proofs.OpenWays.{stays, open_source, next_open}
use Rattle.line_break.proofs.Sweeping.{start_open}
use Rattle.line_break.proofs.Ending.{open_at_forced, to_end_from}

rest_fails : (a b : Bool) → a ≡ true → (a && b) ≡ false → b ≡ false
rest_fails true b t e = e
rest_fails false b t e = absurd (false≢true t)

not_empty : {X : Type 0} (xs : List X) (x : X) → Among xs x → not (is_empty xs) ≡ true
not_empty [] x m = absurd m
not_empty (y ∷ ys) x m = refl

some_member : {X : Type 0} (xs : List X) (x : X) → Among xs x → is_empty xs ≡ false
some_member [] x m = absurd m
some_member (y ∷ ys) x m = refl

reversed : (o p : Ordering) → p ≡ ordering_reverse o → is_gt o ≡ false → not (is_lt p) ≡ true
reversed Less p e g = rw e refl
reversed Equal p e g = rw e refl
reversed Greater p e g = absurd (false≢true (sym g))

module _ (q : Pass) where
  some_last : (ws : List Way) (w : Way) → Among ws w → (b : Way) × Among (filter (is_last q ws) ws) b
  unfolding is_last
  some_last ws w m =
      let total = on_total (λ (v : Way). v.last) (order_total q.open_ended) in
      let f = has_first (back_total total) ws w m in
      let b = f.0 in (
        b,
        Among-filter (is_last q ws) ws b f.2.within
            (all_from (λ v. not (is_lt (order q.open_ended b.last v.last))) ws
            (λ v n. reversed (order q.open_ended v.last b.last) (order q.open_ended b.last v.last) ((order_total q.open_ended).antisymm b.last v.last) (f.2.least v n))),
      )

  first_stands : (ws : List Way) (w : Way) → Among ws w → (b : Way) × Among (filter (stands q ws) ws) b
  unfolding stands
  first_stands ws w m =
      let f = has_first (preference_total q.open_ended) ws w m in
      let b = f.0 in (
        b,
        Among-filter (stands q ws) ws b f.2.within
            (all_from (λ v. not (same_start v.last b.last) || int_le b.total (v.total +ℤ pos q.slack)) ws
            (λ v n. let le = preferred_total q.open_ended b v (f.2.least v n) in or_right _ _ (le-int_le b.total (v.total +ℤ pos q.slack) (omega (arith, ints))))),
      )

  module _ (final : q.final ≡ true) where
    lines_by_not_empty : (to : ℕ) (ws : List Way) (w : Way) → Among ws w → list_all (λ v. dies q to v.last) ws ≡ true → (t : Bool) → rescued q to ws ≡ t → (v : Way) × Among (lines_by q to t ws) v
    unfolding lines_by rescued
    lines_by_not_empty to ws w m dead true e =
        let b = some_last ws w m in
        (extended q to (pos 0) b.0, Among-map (extended q to (pos 0)) (filter (is_last q ws) ws) b.0 b.1)
    lines_by_not_empty to ws w m dead false e =
        let first = and_from (q.final && not (is_empty ws)) (list_all (λ v. dies q to v.last) ws) (and_from q.final (not (is_empty ws)) final (not_empty ws w m)) dead in
        let b = all_fails (is_last q ws) (filter (records q to) ws) (rest_fails _ _ first e) in
        let more : Way → Way = λ v. extended q to (q.demerits v.last to) v in
        (more b.0, Among-map more (filter (records q to) ws) b.0 b.1)

    lines_not_empty : (to : ℕ) (ws : List Way) (w : Way) → Among ws w → list_all (λ v. dies q to v.last) ws ≡ true → (v : Way) × Among (lines_to q to ws) v
    unfolding lines_to lines_by
    lines_not_empty to ws w m dead = lines_by_not_empty to ws w m dead (rescued q to ws) refl

    pub open_not_empty : (place : ℕ) → (w : Way) × Among (open_ways q (suc place) (ways q place)) w
    open_not_empty zero = (start q, subst (λ ws. Among ws (start q)) (sym (start_open q)) (inl refl))
    open_not_empty (suc place) = by (list_all (λ v. dies q (suc place) v.last) (open_ways q (suc place) (ways q place))) refl (open_not_empty place)
      where
        by : (t : Bool) → list_all (λ v. dies q (suc place) v.last) (open_ways q (suc place) (ways q place)) ≡ t → (w : Way) × Among (open_ways q (suc place) (ways q place)) w → (w : Way) × Among (open_ways q (suc (suc place)) (ways q (suc place))) w
        by true e w =
            let old = open_ways q (suc place) (ways q place) in
            let new = lines_to q (suc place) old in
            let v = lines_not_empty (suc place) old w.0 w.1 e in
            let b = first_stands new v.0 v.1 in
            (b.0, subst (λ ws. Among ws b.0) (sym (next_open q place)) (Among-append_right (filter (stays q (suc place)) old) (filter (stands q new) new) b.0 b.1))
        by false e w =
            let old = open_ways q (suc place) (ways q place) in
            let new = lines_to q (suc place) old in
            let x = all_fails (λ v. dies q (suc place) v.last) old e in
            (x.0, subst (λ ws. Among ws x.0) (sym (next_open q place)) (Among-append_left (filter (stays q (suc place)) old) (filter (stands q new) new) x.0 (Among-filter (stays q (suc place)) old x.0 x.1 (ap not x.2))))

    pub reaches : q.forced (end_of q) ≡ true → (b : Way) × (best q ≡ Some b)
    unfolding best
    reaches forced =
        let n = end_of q in
        let w = open_not_empty n in
        let there = to_end_from q forced w.0 (open_source q (suc n) (ways q n) w.0 w.1) (open_at_forced q n forced w.0 w.1) in
        let f = has_first (preference_total q.open_ended) (to_the_end q) w.0 there in
        (f.0, f.1)

    pub open_to_some_by : (place : ℕ) → is_empty (open_to q (suc place)) ≡ false
    unfolding open_to
    open_to_some_by place = let w = open_not_empty place in some_member _ w.0 w.1

pub open_to_some : (q : Pass) (place : ℕ) → q.final ≡ true → is_empty (open_to q (suc place)) ≡ false
open_to_some q place final = open_to_some_by q final place
