-- Each step on the count of draws, and each split and join of seats, keeps the rule.
use Rattle.std.proofs.Common.{◌≡◌, ◌≢◌, ℕ, ◌+◌, ◌<◌, ◌≤◌, refl, ap, sym, ◌∙◌, subst, arith, Bool, true, false, ◌&&◌, List, [], ◌∷◌, ◌++◌, set, get_or, eqb, ltb, leb, ⊎_elim, None, All, Contains, length-set, ne_eqb, get_or-set_same, get_or-set_other}
use Rattle.std.proofs.lemmas.Bool.{false≢true}
use Rattle.std.proofs.lemmas.List.Elements.{All-push, All-append, All-weaker, All-nil, All-head, All-tail, Contains-append_left, Contains-append_right}
use mathlib.Core.Logic.{dite}
use mathlib.Core.Option.{some}
use native.Mathlib.Decide.{ℕ_discrete, dec_le}
use lib.ListN.{get_elem?}
use Rattle.atomic_table.proofs.Lists.{at_set, at_snoc, set_else}
use Rattle.instance_core.specs.declared.font.BaseFont.{BaseFont}
use Rattle.instance_table.specs.declared.view.Claimed.{Claimed}
use Rattle.instance_table.specs.declared.view.Drawn.{Drawn}
use Rattle.instance_table.specs.declared.view.View.{View}
use Rattle.instance_table.specs.Places.{state, state_place, width_place, stored_width, IsStored}
use Rattle.instance_table.specs.Rule.{Rule, Fits, holding, builds, builds_cell, claims_of, draws_of, late_of, late_in, spent_view, IsBuilding, IsSeen, IsReady}
use Rattle.instance_table.specs.Steps.{drew, after_split, split_off, joined_with, IsSeat}
use Rattle.instance_table.specs.Totals.{total, one_if, times}
use Rattle.instance_table.proofs.TotalLemmas.{one_if-eq, one_if-other, one_if-small, one_if-lt, one_if-ge, total-append, total-push, total-set, total-set_same, total-two, total-only}
use Rattle.instance_table.proofs.RuleLemmas.{live_is, Keeps, KeepsClaim, fits_stay, step_keeps, apart_numbers, holds_own, own_below}

state-set_draws : (words : List ℕ) (cell x : ℕ) → state (set words 0 x) cell ≡ state words cell
state-set_draws words cell x = get_or-set_other words 0 (state_place cell) x 0 (λ e. omega arith)

width-set_draws : (words : List ℕ) (cell code x : ℕ) → stored_width (set words 0 x) cell code ≡ stored_width words cell code
width-set_draws words cell code x = get_or-set_other words 0 (width_place cell code) x 0 (λ e. omega arith)

-- one more number is below the next bound
pub one_if-next : (x w : ℕ) → one_if (ltb x w) + one_if (eqb w x) ≡ one_if (ltb x (w + 1))
one_if-next x w = dite (ℕ_discrete w x)
    (λ e. let a = one_if-ge x w (omega arith) in let b = one_if-eq w x e in let c = one_if-lt x (w + 1) (omega arith) in omega arith)
    (λ apart. let b = one_if-other w x apart in dite (dec_le w x)
    (λ large. let a = one_if-ge x w large in let c = one_if-ge x (w + 1) (omega arith) in omega arith)
    (λ small. let a = one_if-lt x w (omega arith) in let c = one_if-lt x (w + 1) (omega arith) in omega arith))

late_none : (draws n : ℕ) (ds : List Drawn) → All (λ d. d.number ≢ n) ds → late_in draws n ds ≡ 0
late_none draws n [] each = refl
late_none draws n (d ∷ ds) each =
    let here : one_if (leb draws d.draw && eqb d.number n) ≡ 0 = none (leb draws d.draw) (eqb d.number n) (ne_eqb d.number n (All-head (λ (x : Drawn). x.number ≢ n) d ds each)) in
    let rest = late_none draws n ds (All-tail (λ (x : Drawn). x.number ≢ n) d ds each) in omega arith
  where
    none : (x y : Bool) → y ≡ false → one_if (x && y) ≡ 0
    none true y e = ap one_if e
    none false y e = refl

fits_made : (bases : List BaseFont) (draws made made' : ℕ) (words : List ℕ) (u : View) → u.number ≢ 0
    → Fits bases draws made words u → Fits bases draws made' words u
fits_made bases draws made made' words u other fit = record {
  bases_same = fit.bases_same;
  draws_same = fit.draws_same;
  first = λ e. absurd (other e);
  other = fit.other;
  joined_some = fit.joined_some;
  builds_one = fit.builds_one;
  seen_cells = fit.seen_cells;
  ready_cells = fit.ready_cells;
  claims_seen = fit.claims_seen;
  claims_own = fit.claims_own;
  draws_own = fit.draws_own;
  not_late = fit.not_late;
}

module _ (bases : List BaseFont) (draws : ℕ) (words : List ℕ) (views : List View) (seat : ℕ) (v : View) (r : Rule bases draws words views) (at : IsSeat views seat v) where
  abbrev fit : Fits bases draws r.made words v
  fit = r.live seat v at.0 at.1

  -- no other seat holds the number of this one
  pub held_apart : (j : ℕ) (u : View) → j ≢ seat → get_elem? views j ≡ some u → 1 ≤ holding v.number u → ⊥
  held_apart j u apart there theirs =
      let n = v.number in
      let both = total-two (holding n) views seat j v u (λ e. apart (sym e)) at.0 there in
      let all = r.numbers n in let small = one_if-small (ltb n r.made) in
      let mine = holds_own v at.1 in absurd (omega arith)

  late_of_other : (j : ℕ) (u : View) → j ≢ seat → get_elem? views j ≡ some u → late_of draws v.number u ≡ 0
  late_of_other j u apart there = by_spent u.spent refl
    where
      by_spent : (b : Bool) → u.spent ≡ b → late_of draws v.number u ≡ 0
      by_spent true gone = ap (late_of draws v.number) (r.joined j u there gone)
      by_spent false live = late_none draws v.number u.drawn
          (All-weaker (λ (d : Drawn). 1 ≤ holding d.number u) (λ (d : Drawn). d.number ≢ v.number)
          (λ d own e. held_apart j u apart there (subst (λ (k : ℕ). 1 ≤ holding k u) e own)) u.drawn (r.live j u there live).draws_own)

  drew_late : v.ended ≡ false → (n : ℕ) → total (late_of draws n) (set views seat (drew v (get_or words 0 0))) ≤ 1
  drew_late going n =
      let w0 = get_or words 0 0 in
      let change = total-set (late_of draws n) views seat v (drew v w0) at.0 in
      let more = total-push (λ (d : Drawn). one_if (leb draws d.draw && eqb d.number n)) v.drawn (record { draw = w0; number = v.number }) in
      let before = r.late n in
      dite (ℕ_discrete v.number n)
      (λ e.
      let all_mine : total (late_of draws n) views ≡ late_of draws n v =
      subst (λ (k : ℕ). total (late_of draws k) views ≡ late_of draws k v) e (total-only (late_of draws v.number) views seat v at.0 late_of_other) in
      let none : late_of draws n v ≡ 0 = subst (λ (k : ℕ). late_of draws k v ≡ 0) e (fit.not_late going) in
      let small = one_if-small (leb draws w0 && eqb v.number n) in omega arith)
      (λ apart.
      let none : one_if (leb draws w0 && eqb v.number n) ≡ 0 = no_second (leb draws w0) (eqb v.number n) (ne_eqb v.number n apart) in omega arith)
    where
      no_second : (x y : Bool) → y ≡ false → one_if (x && y) ≡ 0
      no_second true y e = ap one_if e
      no_second false y e = refl

  drew_kept : (x : ℕ) → Keeps bases words (set words 0 x)
  drew_kept x = record {
    seen = λ c small full none. full (sym (state-set_draws words c x) ∙ none);
    ready = λ c small full. state-set_draws words c x ∙ full;
    widths = λ c code small few is. subst (IsStored bases c code) (sym (width-set_draws words c code x)) is;
  }

  drew_claim : (x number : ℕ) → KeepsClaim bases words (set words 0 x) number
  drew_claim x number c small is = state-set_draws words c x ∙ is

  drew_not_late : v.ended ≡ false → leb v.draws (get_or words 0 0) ≡ false → late_of draws v.number (drew v (get_or words 0 0)) ≡ 0
  drew_not_late going early =
      let w0 = get_or words 0 0 in
      let more = total-push (λ (d : Drawn). one_if (leb draws d.draw && eqb d.number v.number)) v.drawn (record { draw = w0; number = v.number }) in
      let none = fit.not_late going in
      let is : leb draws w0 ≡ false = subst (λ (k : ℕ). leb k w0 ≡ false) fit.draws_same early in
      let zero_more : one_if (leb draws w0 && eqb v.number v.number) ≡ 0 = ap (λ (b : Bool). one_if (b && eqb v.number v.number)) is in
      omega arith

  pub drew_keeps : v.ended ≡ false
      → Rule bases draws (set words 0 (get_or words 0 0 + 1)) (set views seat (drew v (get_or words 0 0)))
  drew_keeps going =
      let w0 = get_or words 0 0 in
      let words' : List ℕ = set words 0 (w0 + 1) in
      let kept = drew_kept (w0 + 1) in
      let stays = fits_stay bases draws r.made words words' v kept (drew_claim (w0 + 1) v.number) fit in
      step_keeps bases draws words words' views seat v (drew v w0) r at.0 record {
        live = at.1;
        size = length-set words 0 (w0 + 1);
        fits = record {
          bases_same = fit.bases_same;
          draws_same = fit.draws_same;
          first = fit.first;
          other = fit.other;
          joined_some = fit.joined_some;
          builds_one = stays.builds_one;
          seen_cells = stays.seen_cells;
          ready_cells = stays.ready_cells;
          claims_seen = fit.claims_seen;
          claims_own = fit.claims_own;
          draws_own = All-push (λ (d : Drawn). 1 ≤ holding d.number v) v.drawn (record { draw = w0; number = v.number }) fit.draws_own (holds_own v at.1);
          not_late = drew_not_late going;
        };
        others = λ j u apart there live. fits_stay bases draws r.made words words' u kept (drew_claim (w0 + 1) u.number);
        numbers = λ n. refl;
        builders = λ c n small. ap (λ k. builds c n v + one_if (eqb k (n + 2))) (sym (state-set_draws words c (w0 + 1)));
        built = λ c small ready code few. kept.widths c code small few
            (r.built c small (sym (state-set_draws words c (w0 + 1)) ∙ ready) code few);
        claims = λ c small. ap (λ k. claims_of c v + one_if (ltb 0 k)) (sym (state-set_draws words c (w0 + 1)));
        drawn = λ x.
            let more = total-push (λ (d : Drawn). one_if (eqb d.draw x)) v.drawn (record { draw = w0; number = v.number }) in
            let next = one_if-next x w0 in
            let size = r.size in
            let now : get_or words' 0 0 ≡ w0 + 1 = get_or-set_same words 0 (w0 + 1) 0 (omega arith) in
            let same : one_if (ltb x (get_or words' 0 0)) ≡ one_if (ltb x (w0 + 1)) = ap (λ k. one_if (ltb x k)) now in
            omega arith;
        late = drew_late going;
      }

  made_is : v.number ≡ 0 → v.made ≡ r.made
  made_is first = fit.first first

  some_made : v.number ≡ 0 → 0 < r.made
  some_made first = subst (λ (k : ℕ). k < r.made) first (own_below bases draws words views seat v.number v r at.0 (holds_own v at.1))

  split_fits : v.number ≡ 0 → Fits bases draws (r.made + 1) words (after_split v)
  split_fits first = record {
    bases_same = fit.bases_same;
    draws_same = fit.draws_same;
    first = λ e. ap (λ k. k + 1) (fit.first e);
    other = fit.other;
    joined_some = fit.joined_some;
    builds_one = fit.builds_one;
    seen_cells = fit.seen_cells;
    ready_cells = fit.ready_cells;
    claims_seen = fit.claims_seen;
    claims_own = fit.claims_own;
    draws_own = fit.draws_own;
    not_late = fit.not_late;
  }

  new_fits : v.number ≡ 0 → Fits bases draws (r.made + 1) words (split_off v)
  new_fits first = record {
    bases_same = fit.bases_same;
    draws_same = fit.draws_same;
    first = λ e. let z = made_is first in let some_of = some_made first in absurd (omega arith);
    other = λ e. refl;
    joined_some = refl;
    builds_one = tt;
    seen_cells = All-nil (IsSeen bases words);
    ready_cells = All-nil (IsReady bases words);
    claims_seen = All-nil (λ (e : Claimed). Contains [] e.cell);
    claims_own = All-nil (λ (e : Claimed). 1 ≤ holding e.number (split_off v));
    draws_own = All-nil (λ (e : Drawn). 1 ≤ holding e.number (split_off v));
    not_late = λ e. refl;
  }

  split_total : (f : View → ℕ) → f (after_split v) ≡ f v
      → total f (set views seat (after_split v) ++ split_off v ∷ []) ≡ total f views + f (split_off v)
  split_total f same = total-push f (set views seat (after_split v)) (split_off v)
      ∙ ap (λ k. k + f (split_off v)) (total-set_same f views seat v (after_split v) at.0 same)

  pub split_keeps : v.number ≡ 0 → v.made < 4294967295
      → Rule bases draws words (set views seat (after_split v) ++ split_off v ∷ [])
  split_keeps first more = record {
    made = r.made + 1;
    few_seats = let z = made_is first in omega arith;
    few_draws = r.few_draws;
    size = r.size;
    live = λ j u there live. ⊎_elim
        (λ (old : get_elem? (set views seat (after_split v)) j ≡ some u). ⊎_elim
        (λ (t : (j ≡ seat) × (after_split v ≡ u)). subst (Fits bases draws (r.made + 1) words) t.1 (split_fits first))
        (λ (t : (j ≢ seat) × (get_elem? views j ≡ some u)). fits_made bases draws r.made (r.made + 1) words u
        (λ e. apart_numbers bases draws words views seat j v u r (λ k. t.0 (sym k)) at.0 t.1 at.1 live (first ∙ sym e))
        (r.live j u t.1 live))
        (at_set views seat j (after_split v) u old))
        (λ (new : split_off v ≡ u). subst (Fits bases draws (r.made + 1) words) new (new_fits first))
        (at_snoc (set views seat (after_split v)) (split_off v) u j there);
    joined = λ j u there gone. ⊎_elim
        (λ (old : get_elem? (set views seat (after_split v)) j ≡ some u). ⊎_elim
        (λ (t : (j ≡ seat) × (after_split v ≡ u)). absurd (false≢true (sym at.1 ∙ (ap (λ (x : View). x.spent) t.1 ∙ gone))))
        (λ (t : (j ≢ seat) × (get_elem? views j ≡ some u)). r.joined j u t.1 gone)
        (at_set views seat j (after_split v) u old))
        (λ (new : split_off v ≡ u). absurd (false≢true (ap (λ (x : View). x.spent) new ∙ gone)))
        (at_snoc (set views seat (after_split v)) (split_off v) u j there);
    numbers = λ n.
        let e = split_total (holding n) refl in
        let before = r.numbers n in
        let next = one_if-next n r.made in
        let same : one_if (eqb v.made n) ≡ one_if (eqb r.made n) = ap (λ k. one_if (eqb k n)) (made_is first) in
        omega arith;
    builders = λ c n small. let e = split_total (builds c n) refl in let before = r.builders c n small in omega arith;
    built = r.built;
    claims = λ c small. let e = split_total (claims_of c) refl in let before = r.claims c small in omega arith;
    drawn = λ x. let e = split_total (draws_of x) refl in let before = r.drawn x in omega arith;
    late = λ n. let e = split_total (late_of draws n) refl in let before = r.late n in omega arith;
  }

  module _ (other : ℕ) (w : View) (theirs : IsSeat views other w) (apart : seat ≢ other) (first : v.number ≡ 0) where
    abbrev fit' : Fits bases draws r.made words w
    fit' = r.live other w theirs.0 theirs.1

    abbrev both : View
    both = joined_with v w

    other_number : w.number ≢ 0
    other_number e = apart_numbers bases draws words views seat other v w r apart at.0 theirs.0 at.1 theirs.1 (first ∙ sym e)

    joined_total : (f : View → ℕ) → f both ≡ f v + f w → f spent_view ≡ 0
        → total f (set (set views seat both) other spent_view) ≡ total f views
    joined_total f adds none =
        let one = total-set f views seat v both at.0 in
        let there : get_elem? (set views seat both) other ≡ some w = set_else views seat other both (λ e. apart (sym e)) ∙ theirs.0 in
        let two = total-set f (set views seat both) other w spent_view there in omega arith

    holding_both : (n : ℕ) → holding n both ≡ holding n v + holding n w
    holding_both n =
        let a = live_is v.spent (one_if (eqb v.number n) + times n (v.joined ++ w.number ∷ [])) at.1 in
        let b = live_is v.spent (one_if (eqb v.number n) + times n v.joined) at.1 in
        let c = live_is w.spent (one_if (eqb w.number n) + times n w.joined) theirs.1 in
        let push = total-push (λ m. one_if (eqb m n)) v.joined w.number in
        let nothing : times n w.joined ≡ 0 = ap (times n) (fit'.other other_number) in omega arith

    late_theirs : late_of draws v.number w ≡ 0
    late_theirs = late_of_other other w (λ e. apart (sym e)) theirs.0

    join_fits : v.building ≡ None → Fits bases draws r.made words both
    join_fits free = record {
      bases_same = fit.bases_same;
      draws_same = fit.draws_same;
      first = fit.first;
      other = λ e. absurd (e first);
      joined_some =
          let push = total-push (λ m. one_if (eqb m 0)) v.joined w.number in
          let before = fit.joined_some in
          let none = one_if-other w.number 0 other_number in omega arith;
      builds_one = subst (IsBuilding bases words v.number (v.claims ++ w.claims)) (sym free) tt;
      seen_cells = All-append (IsSeen bases words) v.seen w.seen fit.seen_cells fit'.seen_cells;
      ready_cells = All-append (IsReady bases words) v.ready w.ready fit.ready_cells fit'.ready_cells;
      claims_seen = All-append (λ (e : Claimed). Contains (v.seen ++ w.seen) e.cell) v.claims w.claims
          (All-weaker (λ (e : Claimed). Contains v.seen e.cell) (λ (e : Claimed). Contains (v.seen ++ w.seen) e.cell)
          (λ e. Contains-append_left v.seen w.seen e.cell) v.claims fit.claims_seen)
          (All-weaker (λ (e : Claimed). Contains w.seen e.cell) (λ (e : Claimed). Contains (v.seen ++ w.seen) e.cell)
          (λ e. Contains-append_right v.seen w.seen e.cell) w.claims fit'.claims_seen);
      claims_own = All-append (λ (e : Claimed). 1 ≤ holding e.number both) v.claims w.claims
          (All-weaker (λ (e : Claimed). 1 ≤ holding e.number v) (λ (e : Claimed). 1 ≤ holding e.number both)
          (λ e own. let sums = holding_both e.number in omega arith) v.claims fit.claims_own)
          (All-weaker (λ (e : Claimed). 1 ≤ holding e.number w) (λ (e : Claimed). 1 ≤ holding e.number both)
          (λ e own. let sums = holding_both e.number in omega arith) w.claims fit'.claims_own);
      draws_own = All-append (λ (e : Drawn). 1 ≤ holding e.number both) v.drawn w.drawn
          (All-weaker (λ (e : Drawn). 1 ≤ holding e.number v) (λ (e : Drawn). 1 ≤ holding e.number both)
          (λ e own. let sums = holding_both e.number in omega arith) v.drawn fit.draws_own)
          (All-weaker (λ (e : Drawn). 1 ≤ holding e.number w) (λ (e : Drawn). 1 ≤ holding e.number both)
          (λ e own. let sums = holding_both e.number in omega arith) w.drawn fit'.draws_own);
      not_late = λ going.
          let sums = total-append (λ (d : Drawn). one_if (leb draws d.draw && eqb d.number v.number)) v.drawn w.drawn in
          let mine = fit.not_late going in
          let not_theirs = late_theirs in omega arith;
    }

    nothing_built : (c n : ℕ) (x : View) → x.spent ≡ false → x.building ≡ None → builds c n x ≡ 0
    nothing_built c n x live free = live_is x.spent (builds_cell c n x.number x.building) live ∙ ap (builds_cell c n x.number) free

    pub join_keeps : v.building ≡ None → w.building ≡ None
        → Rule bases draws words (set (set views seat both) other spent_view)
    join_keeps free free' = record {
      made = r.made;
      few_seats = r.few_seats;
      few_draws = r.few_draws;
      size = r.size;
      live = λ j u there live. ⊎_elim
          (λ (t : (j ≡ other) × (spent_view ≡ u)). absurd (false≢true (sym live ∙ ap (λ (x : View). x.spent) (sym t.1))))
          (λ (t : (j ≢ other) × (get_elem? (set views seat both) j ≡ some u)). ⊎_elim
          (λ (s : (j ≡ seat) × (both ≡ u)). subst (Fits bases draws r.made words) s.1 (join_fits free))
          (λ (s : (j ≢ seat) × (get_elem? views j ≡ some u)). r.live j u s.1 live)
          (at_set views seat j both u t.1))
          (at_set (set views seat both) other j spent_view u there);
      joined = λ j u there gone. ⊎_elim
          (λ (t : (j ≡ other) × (spent_view ≡ u)). sym t.1)
          (λ (t : (j ≢ other) × (get_elem? (set views seat both) j ≡ some u)). ⊎_elim
          (λ (s : (j ≡ seat) × (both ≡ u)). absurd (false≢true (sym at.1 ∙ (ap (λ (x : View). x.spent) s.1 ∙ gone))))
          (λ (s : (j ≢ seat) × (get_elem? views j ≡ some u)). r.joined j u s.1 gone)
          (at_set views seat j both u t.1))
          (at_set (set views seat both) other j spent_view u there);
      numbers = λ n. joined_total (holding n) (holding_both n) refl ∙ r.numbers n;
      builders = λ c n small.
          joined_total (builds c n)
          (let a = nothing_built c n v at.1 free in let b = nothing_built c n w theirs.1 free' in
          let z = nothing_built c n both at.1 free in omega arith) refl
          ∙ r.builders c n small;
      built = r.built;
      claims = λ c small. joined_total (claims_of c) (total-append (λ (e : Claimed). one_if (eqb e.cell c)) v.claims w.claims) refl ∙ r.claims c small;
      drawn = λ x. joined_total (draws_of x) (total-append (λ (e : Drawn). one_if (eqb e.draw x)) v.drawn w.drawn) refl ∙ r.drawn x;
      late = λ n.
          let e = joined_total (late_of draws n) (total-append (λ (e : Drawn). one_if (leb draws e.draw && eqb e.number n)) v.drawn w.drawn) refl in
          let before = r.late n in omega arith;
    }
