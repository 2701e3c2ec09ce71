-- What the rule says of the last seat of a table, to which all others were joined.
use Rattle.std.proofs.Common.{◌≡◌, ◌≢◌, ◌⊎◌, ℕ, zero, suc, ◌+◌, ◌-◌, ◌<◌, ◌≤◌, refl, ap, sym, ◌∙◌, subst, arith, Bool, true, false, List, [], ◌∷◌, length, get_or, eqb, ltb, Option, Some, None, All, Contains}
use Rattle.std.proofs.lemmas.List.Elements.{All-contains, All-weaker}
use mathlib.Core.Logic.{dite}
use mathlib.Core.Option.{some}
use native.Mathlib.Decide.{ℕ_discrete}
use lib.ListN.{get_elem?}
use Rattle.instance_core.specs.declared.font.BaseFont.{BaseFont}
use Rattle.instance_table.specs.declared.view.Claimed.{Claimed}
use Rattle.instance_table.specs.declared.view.Drawn.{Drawn}
use Rattle.instance_table.specs.declared.view.View.{View}
use Rattle.instance_table.specs.Closing.{IsAlone, AreDrawn, Ends}
use Rattle.instance_table.specs.Places.{cell_count, state}
use Rattle.instance_table.specs.Rule.{Rule, Fits, holding, builds, builds_cell, claims_in, claims_of, draws_of, spent_view, IsSeen}
use Rattle.instance_table.specs.Seats.{Standing}
use Rattle.instance_table.specs.Steps.{IsSeat}
use Rattle.instance_table.specs.Totals.{total, one_if, times}
use Rattle.instance_table.proofs.Learned.{total-at}
use Rattle.instance_table.proofs.OwnerLemmas.{claimed_cell}
use Rattle.instance_table.proofs.RuleLemmas.{live_is, holds_own, own_below}
use Rattle.instance_table.proofs.TotalLemmas.{one_if-same, one_if-eq, one_if-small, one_if-lt, one_if-ge, one_if-is, one_if-below, total-only, total-two}

times-some : (n : ℕ) (ns : List ℕ) → Contains ns n → 1 ≤ times n ns
times-some n ns (k, inside, is) =
    let here = total-at (λ (m : ℕ). one_if (eqb m n)) ns k n inside in
    let one = one_if-eq (get_or ns k n) n is in omega arith

module _ (t : Standing) (words : List ℕ) (views : List View) (seat : ℕ) (v : View)
    (r : Rule t.bases t.draws words views) (at : IsSeat views seat v)
    (first : v.number ≡ 0) (free : v.building ≡ None) (alone : IsAlone v) where
  fit : Fits t.bases t.draws r.made words v
  fit = r.live seat v at.0 at.1

  -- it holds each number that was made
  holds_each : (n : ℕ) → n < r.made → 1 ≤ holding n v
  holds_each n small =
      let is = live_is v.spent (one_if (eqb v.number n) + times n v.joined) at.1 in
      dite (ℕ_discrete n 0)
      (λ zero_is. let one = one_if-eq v.number n (first ∙ sym zero_is) in omega arith)
      (λ other.
      let made = fit.first first in
      let some_of = times-some n v.joined (alone n (omega arith) (omega arith)) in omega arith)

  -- so no other seat is left
  pub others_spent : (j : ℕ) (u : View) → j ≢ seat → get_elem? views j ≡ some u → u ≡ spent_view
  others_spent j u apart there = by_spent u.spent refl
    where
      by_spent : (b : Bool) → u.spent ≡ b → u ≡ spent_view
      by_spent true gone = r.joined j u there gone
      by_spent false live =
          let theirs = holds_own u live in
          let below = own_below t.bases t.draws words views j u.number u r there theirs in
          let mine = holds_each u.number below in
          let both = total-two (holding u.number) views seat j v u (λ e. apart (sym e)) at.0 there in
          let all = r.numbers u.number in let small = one_if-small (ltb u.number r.made) in absurd (omega arith)

  pub total_alone : (f : View → ℕ) → f spent_view ≡ 0 → total f views ≡ f v
  total_alone f none = total-only f views seat v at.0 (λ j u apart there. ap f (others_spent j u apart there) ∙ none)

  pub claims_once : (cell : ℕ) → cell < cell_count t.bases → claims_in cell v.claims ≡ one_if (ltb 0 (state words cell))
  claims_once cell below = sym (total_alone (claims_of cell) refl) ∙ r.claims cell below

  pub seen_claimed : (cell : ℕ) → Contains v.seen cell → claims_in cell v.claims ≡ 1
  seen_claimed cell inside =
      let is = All-contains (IsSeen t.bases words) v.seen cell fit.seen_cells inside in
      let once = claims_once cell is.0 in
      let one = one_if-lt 0 (state words cell) (let h = is.1 in omega arith) in omega arith

  pub claimed_seen : (cell : ℕ) → 1 ≤ claims_in cell v.claims → Contains v.seen cell
  claimed_seen cell some_of = claimed_cell v.seen v.claims cell fit.claims_seen some_of

  pub seen_below : All (λ c. c < cell_count t.bases) v.seen
  seen_below = All-weaker (IsSeen t.bases words) (λ (c : ℕ). c < cell_count t.bases) (λ c is. is.0) v.seen fit.seen_cells

  pub claims_below_count : All (λ e. e.cell < cell_count t.bases) v.claims
  claims_below_count = All-weaker (λ (e : Claimed). Contains v.seen e.cell) (λ (e : Claimed). e.cell < cell_count t.bases)
      (λ e inside. All-contains (λ (c : ℕ). c < cell_count t.bases) v.seen e.cell seen_below inside) v.claims fit.claims_seen

  pub claims_made : All (λ e. e.number < v.made) v.claims
  claims_made = All-weaker (λ (e : Claimed). 1 ≤ holding e.number v) (λ (e : Claimed). e.number < v.made)
      (λ e own. subst (λ (k : ℕ). e.number < k) (sym (fit.first first)) (own_below t.bases t.draws words views seat e.number v r at.0 own))
      v.claims fit.claims_own

  nothing_built : (cell n : ℕ) → cell < cell_count t.bases → state words cell ≢ n + 2
  nothing_built cell n below is =
      let none : builds cell n v ≡ 0 = live_is v.spent (builds_cell cell n v.number v.building) at.1 ∙ ap (builds_cell cell n v.number) free in
      let all = total_alone (builds cell n) refl in
      let rule = r.builders cell n below in
      let one = one_if-eq (state words cell) (n + 2) is in omega arith

  pub seen_built : (cell : ℕ) → Contains v.seen cell → state words cell ≡ 1
  seen_built cell inside =
      let is = All-contains (IsSeen t.bases words) v.seen cell fit.seen_cells inside in
      let some_of = is.1 in
      dite (ℕ_discrete (state words cell) 1) (λ e. e)
      (λ other. absurd (nothing_built cell (state words cell - 2) is.0 (omega arith)))

  pub unseen_empty : (cell : ℕ) → cell < cell_count t.bases → (Contains v.seen cell → ⊥) → state words cell ≡ 0
  unseen_empty cell below unseen =
      dite (ℕ_discrete (state words cell) 0) (λ e. e)
      (λ other.
      let once = claims_once cell below in
      let one = one_if-lt 0 (state words cell) (omega arith) in absurd (unseen (claimed_seen cell (omega arith))))

  pub ends : Ends t v
  ends = record {
    words = words;
    views = views;
    seat = seat;
    rule = r;
    here = at.0;
    built = seen_built;
    empty = unseen_empty;
  }

  drawn_is : (x : ℕ) → draws_of x v ≡ one_if (ltb x (get_or words 0 0))
  drawn_is x = sym (total_alone (draws_of x) refl) ∙ r.drawn x

  pub are_drawn : AreDrawn v
  are_drawn = record {
    count = get_or words 0 0;
    once = drawn_is;
    all = λ d inside late x small.
        let here = total-at (λ (e : Drawn). one_if (eqb e.draw d.draw)) v.drawn inside.0 d inside.1 in
        let own = one_if-eq (get_or v.drawn inside.0 d).draw d.draw (ap (λ (e : Drawn). e.draw) inside.2) in
        let count = drawn_is d.draw in
        let below = one_if-below d.draw (get_or words 0 0) (omega arith) in
        let one = one_if-lt x (get_or words 0 0) (omega arith) in
        drawn_is x ∙ one;
  }
