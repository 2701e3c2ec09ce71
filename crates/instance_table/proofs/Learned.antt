-- What a seat learns of its own view and of the word that it finds, by the rule.
use Rattle.std.proofs.Common.{◌≡◌, ◌≢◌, ◌⊎◌, ℕ, zero, suc, ◌+◌, ◌*◌, ◌<◌, ◌≤◌, refl, ap, sym, ◌∙◌, subst, arith, Bool, true, false, ◌&&◌, List, [], ◌∷◌, ◌++◌, length, set, get_or, eqb, ltb, leb, ⊎_elim, Option, Some, None, All, Contains}
use Rattle.std.proofs.lemmas.List.Elements.{All-append, All-weaker, All-nil, All-contains, All-same}
use mathlib.Core.Option.{some, some-injective, some-ne-none}
use lib.ListN.{get_elem?}
use Rattle.instance_core.specs.declared.font.BaseFont.{BaseFont}
use Rattle.instance_table.specs.declared.view.Claimed.{Claimed}
use Rattle.instance_table.specs.declared.view.Drawn.{Drawn}
use Rattle.instance_table.specs.declared.view.View.{View}
use Rattle.instance_table.specs.Places.{cell_count, state}
use Rattle.instance_table.specs.Plays.{IsNews, IsKnown}
use Rattle.instance_table.specs.Rule.{Rule, Fits, holding, claims_of, draws_of, late_of, spent_view, IsSeen, IsReady}
use Rattle.instance_table.specs.Steps.{IsSeat}
use Rattle.instance_table.specs.Totals.{total, one_if, times}
use Rattle.instance_table.proofs.CountLemmas.{few_marked, many_late, total-length}
use Rattle.instance_table.proofs.RuleLemmas.{live_is, no_own_claim, own_below, holds_own}
use Rattle.instance_table.proofs.TotalLemmas.{one_if-same, one_if-small, one_if-lt, one_if-below, one_if-eq, total-append, total-one}

pub total-at : {A : Type 0} (f : A → ℕ) (es : List A) (k : ℕ) (d : A) → k < length es → f (get_or es k d) ≤ total f es
total-at f [] k d inside = absurd (omega arith)
total-at f (e ∷ es) zero d inside = omega arith
total-at f (e ∷ es) (suc k) d inside = let rest = total-at f es k d (omega arith) in omega arith

pub seat_here : (l : List View) (i : ℕ) (a b : View) → get_elem? l i ≡ some a → get_elem? (set l i b) i ≡ some b
seat_here [] i a b e = absurd (some-ne-none a (sym e))
seat_here (x ∷ xs) zero a b e = refl
seat_here (x ∷ xs) (suc i) a b e = seat_here xs i a b e

-- the draws of all seats
abbrev all_drawn : List View → List Drawn
all_drawn [] = []
all_drawn (v ∷ vs) = v.drawn ++ all_drawn vs

all_drawn-total : (f : Drawn → ℕ) (views : List View) → total f (all_drawn views) ≡ total (λ v. total f v.drawn) views
all_drawn-total f [] = refl
all_drawn-total f (v ∷ vs) = let split = total-append f v.drawn (all_drawn vs) in let rest = all_drawn-total f vs in omega arith

all_drawn-each : (P : Drawn → Type 0) (views : List View) → ((j : ℕ) (u : View) → get_elem? views j ≡ some u → All P u.drawn) → All P (all_drawn views)
all_drawn-each P [] each = All-nil P
all_drawn-each P (v ∷ vs) each = All-append P v.drawn (all_drawn vs) (each 0 v refl) (all_drawn-each P vs (λ j u at. each (suc j) u at))

-- the count of draws is no more than the draws and one for each seat
pub few_drawn : (bases : List BaseFont) (draws : ℕ) (words : List ℕ) (views : List View) (r : Rule bases draws words views)
    → get_or words 0 0 ≤ draws + r.made
few_drawn bases draws words views r =
    let es = all_drawn views in
    let found = many_late (λ (d : Drawn). d.draw) draws (get_or words 0 0) es (λ x small.
    let sums = all_drawn-total (λ (d : Drawn). one_if (eqb d.draw x)) views in
    let rule = r.drawn x in
    let one = one_if-lt x (get_or words 0 0) small in omega arith) in
    let most = few_marked (λ (d : Drawn). leb draws d.draw) (λ (d : Drawn). d.number) r.made es
    (all_drawn-each (λ (d : Drawn). d.number < r.made) views numbered)
    (λ n small. let sums = all_drawn-total (λ (d : Drawn). one_if (leb draws d.draw && eqb d.number n)) views in let rule = r.late n in omega arith) in
    omega arith
  where
    numbered : (j : ℕ) (u : View) → get_elem? views j ≡ some u → All (λ (d : Drawn). d.number < r.made) u.drawn
    numbered j u at = by_spent u.spent refl
      where
        by_spent : (b : Bool) → u.spent ≡ b → All (λ (d : Drawn). d.number < r.made) u.drawn
        by_spent true gone = All-same (λ (d : Drawn). d.number < r.made) u.drawn [] (ap (λ (x : View). x.drawn) (r.joined j u at gone)) (All-nil (λ (d : Drawn). d.number < r.made))
        by_spent false live = All-weaker (λ (d : Drawn). 1 ≤ holding d.number u) (λ (d : Drawn). d.number < r.made)
            (λ d own. own_below bases draws words views j d.number u r at own) u.drawn (r.live j u at live).draws_own

module _ (bases : List BaseFont) (draws : ℕ) (words : List ℕ) (views : List View) (seat : ℕ) (v : View) (r : Rule bases draws words views) (at : IsSeat views seat v) where
  abbrev fit : Fits bases draws r.made words v
  fit = r.live seat v at.0 at.1

  pub news : (cell : ℕ) → v.building ≡ None → cell < cell_count bases → IsNews v cell (state words cell)
  news cell free below = record {
    another = no_own_claim bases draws words views seat v r at.0 at.1 free cell below;
    seen = λ inside. (All-contains (IsSeen bases words) v.seen cell fit.seen_cells inside).1;
    ready = λ inside. (All-contains (IsReady bases words) v.ready cell fit.ready_cells inside).1;
  }

  pub few_claims : length v.claims ≤ cell_count bases
  few_claims =
      let most = few_marked (λ (e : Claimed). true) (λ (e : Claimed). e.cell) (cell_count bases) v.claims
      (All-weaker (λ (e : Claimed). Contains v.seen e.cell) (λ (e : Claimed). e.cell < cell_count bases)
      (λ e inside. (All-contains (IsSeen bases words) v.seen e.cell fit.seen_cells inside).0) v.claims fit.claims_seen)
      (λ c small.
      let one = total-one (claims_of c) views seat v at.0 in
      let rule = r.claims c small in
      let few = one_if-small (ltb 0 (state words c)) in omega arith) in
      let same = total-length v.claims in omega arith

  pub draws_rise : All (λ (d : Drawn). d.draw < get_or words 0 0) v.drawn
  draws_rise k d inside =
      let x = (get_or v.drawn k d).draw in
      let here = total-at (λ (e : Drawn). one_if (eqb e.draw x)) v.drawn k d inside in
      let same = one_if-same x in
      let one = total-one (draws_of x) views seat v at.0 in
      let rule = r.drawn x in one_if-below x (get_or words 0 0) (omega arith)

  joined_each : v.number ≡ 0 → All (λ n. (n ≢ 0) × (n < v.made)) v.joined
  joined_each first k d inside =
      let n = get_or v.joined k d in
      let here = total-at (λ (m : ℕ). one_if (eqb m n)) v.joined k d inside in
      let same = one_if-same n in
      let is = live_is v.spent (one_if (eqb v.number n) + times n v.joined) at.1 in (
        (λ e.
            let zero_here = total-at (λ (m : ℕ). one_if (eqb m 0)) v.joined k d inside in
            let one = one_if-eq n 0 e in
            let none = fit.joined_some in absurd (omega arith)),
        subst (λ (k : ℕ). n < k) (sym (fit.first first)) (own_below bases draws words views seat n v r at.0 (omega arith)),
      )

  pub known : IsKnown v
  known = record {
    few_claims = subst (λ (bs : List BaseFont). length v.claims ≤ cell_count bs) (sym fit.bases_same) few_claims;
    claims_own = fit.claims_own;
    draws_own = fit.draws_own;
    other = fit.other;
    joined = joined_each;
  }
