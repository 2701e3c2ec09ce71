-- Each step on a cell keeps the rule.
use Rattle.std.proofs.Common.{◌≡◌, ◌≢◌, ℕ, ◌+◌, ◌<◌, ◌≤◌, refl, ap, sym, ◌∙◌, subst, arith, Bool, true, false, ◌&&◌, List, [], ◌∷◌, ◌++◌, set, get_or, eqb, ltb, Option, Some, None, Contains, leb, length-set, eq-eqb, ne_eqb}
use Rattle.std.proofs.lemmas.List.Elements.{All-push, All-weaker, Contains-append_left, Contains-push}
use mathlib.Core.Logic.{dite}
use native.Mathlib.Decide.{ℕ_discrete}
use Rattle.instance_core.specs.declared.font.BaseFont.{BaseFont}
use Rattle.instance_table.specs.declared.view.Building.{Building}
use Rattle.instance_table.specs.declared.view.Claimed.{Claimed}
use Rattle.instance_table.specs.declared.view.View.{View}
use Rattle.instance_table.specs.Places.{cell_count, state, state_place, width_place, stored_width, IsStored, IsBuilt}
use Rattle.instance_table.specs.Rule.{Rule, Fits, if_live, holding, builds, builds_cell, claims_of, draws_of, late_of, IsBuilding, IsSeen, IsReady}
use Rattle.instance_table.specs.Steps.{looked, lost, won, stored, published, has_read, with_seen, IsSeat}
use Rattle.instance_table.specs.Totals.{total, one_if}
use Rattle.instance_table.proofs.TotalLemmas.{one_if-eq, one_if-other, one_if-lt, one_if-ge, total-push, total-set_same}
use Rattle.instance_table.proofs.WordLemmas.{state-set_same, state-set_other, width-set_state, draws-set_state, state-set_width, draws-set_width, width-set_same, width-set_other, seen_more, ready_more, still_seen}
use Rattle.instance_table.proofs.RuleLemmas.{live_is, Keeps, KeepsClaim, fits_stay, step_keeps, knows_more, holds_own, apart_numbers}

and_true : (x y : Bool) → x ≡ true → one_if (x && y) ≡ one_if y
and_true x y e = ap (λ (b : Bool). one_if (b && y)) e

and_false : (x y : Bool) → x ≡ false → one_if (x && y) ≡ 0
and_false x y e = ap (λ (b : Bool). one_if (b && y)) e

one_if-shift : (n m : ℕ) → one_if (eqb (n + 2) (m + 2)) ≡ one_if (eqb n m)
one_if-shift n m = dite (ℕ_discrete n m)
    (λ e. one_if-eq (n + 2) (m + 2) (ap (λ k. k + 2) e) ∙ sym (one_if-eq n m e))
    (λ apart. one_if-other (n + 2) (m + 2) (λ e. apart (omega arith)) ∙ sym (one_if-other n m apart))

module _ (bases : List BaseFont) (draws : ℕ) (words : List ℕ) (views : List View) (seat : ℕ) (v : View) (r : Rule bases draws words views) (at : IsSeat views seat v) where
  abbrev fit : Fits bases draws r.made words v
  fit = r.live seat v at.0 at.1

  -- no draw of the seat changed
  pub late_stays : (w : View) → w.drawn ≡ v.drawn → (n : ℕ) → total (late_of draws n) (set views seat w) ≤ 1
  late_stays w same n =
      let e = total-set_same (late_of draws n) views seat v w at.0 (ap (λ ds. total (λ d. one_if (leb draws d.draw && eqb d.number n)) ds) same) in
      let before = r.late n in omega arith

  pub looked_keeps : (cell : ℕ) → cell < cell_count bases → Rule bases draws words (set views seat (looked v cell (state words cell)))
  looked_keeps cell below = knows_more bases draws words views seat v (looked v cell (state words cell)) r at.0 at.1
      (record {
        bases_same = fit.bases_same;
        draws_same = fit.draws_same;
        first = fit.first;
        other = fit.other;
        joined_some = fit.joined_some;
        builds_one = fit.builds_one;
        seen_cells = seen_more bases words v.seen cell below fit.seen_cells;
        ready_cells = ready_more bases words v.ready cell below fit.ready_cells;
        claims_seen = All-weaker (λ e. Contains v.seen e.cell) (λ e. Contains (with_seen cell (state words cell) v.seen) e.cell)
            (λ e. still_seen v.seen cell (state words cell) e.cell) v.claims fit.claims_seen;
        claims_own = fit.claims_own;
        draws_own = fit.draws_own;
        not_late = fit.not_late;
      })
      (λ n. refl) (λ cell n. refl) (λ cell. refl) (λ x. refl) (λ n. refl)

  pub lost_keeps : (cell : ℕ) → cell < cell_count bases → Rule bases draws words (set views seat (lost v cell (state words cell)))
  lost_keeps cell below = knows_more bases draws words views seat v (lost v cell (state words cell)) r at.0 at.1
      (record {
        bases_same = fit.bases_same;
        draws_same = fit.draws_same;
        first = fit.first;
        other = fit.other;
        joined_some = fit.joined_some;
        builds_one = fit.builds_one;
        seen_cells = seen_more bases words v.seen cell below fit.seen_cells;
        ready_cells = ready_more bases words v.ready cell below fit.ready_cells;
        claims_seen = All-weaker (λ e. Contains v.seen e.cell) (λ e. Contains (with_seen cell (state words cell) v.seen) e.cell)
            (λ e. still_seen v.seen cell (state words cell) e.cell) v.claims fit.claims_seen;
        claims_own = fit.claims_own;
        draws_own = fit.draws_own;
        not_late = fit.not_late;
      })
      (λ n. refl) (λ cell n. refl) (λ cell. refl) (λ x. refl) (λ n. refl)

  pub read_keeps : (cell code word : ℕ) → Rule bases draws words (set views seat (has_read v cell code word))
  read_keeps cell code word = knows_more bases draws words views seat v (has_read v cell code word) r at.0 at.1
      (record {
        bases_same = fit.bases_same;
        draws_same = fit.draws_same;
        first = fit.first;
        other = fit.other;
        joined_some = fit.joined_some;
        builds_one = fit.builds_one;
        seen_cells = fit.seen_cells;
        ready_cells = fit.ready_cells;
        claims_seen = fit.claims_seen;
        claims_own = fit.claims_own;
        draws_own = fit.draws_own;
        not_late = fit.not_late;
      })
      (λ n. refl) (λ cell n. refl) (λ cell. refl) (λ x. refl) (λ n. refl)

  -- a word for an empty cell
  state_from_zero : (cell x : ℕ) → cell < cell_count bases → state words cell ≡ 0 → x ≢ 0 → x ≢ 1
      → Keeps bases words (set words (state_place cell) x)
  state_from_zero cell x below empty some_claim unbuilt = record {
    seen = λ c small full. dite (ℕ_discrete c cell)
        (λ e. absurd (full (ap (state words) e ∙ empty)))
        (λ apart none. full (sym (state-set_other words cell c x apart) ∙ none));
    ready = λ c small full. dite (ℕ_discrete c cell)
        (λ e. let zero_is : 1 ≡ 0 = sym full ∙ (ap (state words) e ∙ empty) in absurd (omega arith))
        (λ apart. state-set_other words cell c x apart ∙ full);
    widths = λ c code small few is. subst (IsStored bases c code) (sym (width-set_state words cell c code x few)) is;
  }

  claim_from_zero : (cell x number : ℕ) → state words cell ≡ 0 → KeepsClaim bases words (set words (state_place cell) x) number
  claim_from_zero cell x number empty c small is = dite (ℕ_discrete c cell)
      (λ e. let zero_is : number + 2 ≡ 0 = sym is ∙ (ap (state words) e ∙ empty) in absurd (omega arith))
      (λ apart. state-set_other words cell c x apart ∙ is)

  kept_from_zero : (cell : ℕ) → cell < cell_count bases → state words cell ≡ 0 → Keeps bases words (set words (state_place cell) (v.number + 2))
  kept_from_zero cell below empty = state_from_zero cell (v.number + 2) below empty (λ e. omega arith) (λ e. omega arith)

  now_claimed : (cell : ℕ) → cell < cell_count bases → state (set words (state_place cell) (v.number + 2)) cell ≡ v.number + 2
  now_claimed cell below = state-set_same bases words cell (v.number + 2) r.size below

  builds_nothing : (c n : ℕ) → v.building ≡ None → builds c n v ≡ 0
  builds_nothing c n free = live_is v.spent (builds_cell c n v.number v.building) at.1 ∙ ap (builds_cell c n v.number) free

  won_builds : (cell c n : ℕ) → builds c n (won v cell) ≡ one_if (eqb cell c && eqb v.number n)
  won_builds cell c n = live_is v.spent (one_if (eqb cell c && eqb v.number n)) at.1

  here_builds : (cell c n : ℕ) → cell < cell_count bases → v.building ≡ None → state words cell ≡ 0 → c ≡ cell
      → builds c n (won v cell) + one_if (eqb (state words c) (n + 2))
      ≡ builds c n v + one_if (eqb (state (set words (state_place cell) (v.number + 2)) c) (n + 2))
  here_builds cell c n below free empty e =
      let none_before = builds_nothing c n free in
      let mine = won_builds cell c n ∙ and_true (eqb cell c) (eqb v.number n) (eq-eqb cell c (sym e)) in
      let old = one_if-other (state words c) (n + 2) (λ k. let z : 0 ≡ n + 2 = sym empty ∙ (ap (state words) (sym e) ∙ k) in omega arith) in
      let new : one_if (eqb (state (set words (state_place cell) (v.number + 2)) c) (n + 2)) ≡ one_if (eqb v.number n) =
      ap (λ k. one_if (eqb k (n + 2))) (ap (state (set words (state_place cell) (v.number + 2))) e ∙ now_claimed cell below) ∙ one_if-shift v.number n in
      omega arith

  there_builds : (cell c n : ℕ) → v.building ≡ None → c ≢ cell
      → builds c n (won v cell) + one_if (eqb (state words c) (n + 2))
      ≡ builds c n v + one_if (eqb (state (set words (state_place cell) (v.number + 2)) c) (n + 2))
  there_builds cell c n free apart =
      let none_before = builds_nothing c n free in
      let mine = won_builds cell c n ∙ and_false (eqb cell c) (eqb v.number n) (ne_eqb cell c (λ k. apart (sym k))) in
      let same : one_if (eqb (state (set words (state_place cell) (v.number + 2)) c) (n + 2)) ≡ one_if (eqb (state words c) (n + 2)) =
      ap (λ k. one_if (eqb k (n + 2))) (state-set_other words cell c (v.number + 2) apart) in
      omega arith

  here_claims : (cell c : ℕ) → cell < cell_count bases → state words cell ≡ 0 → c ≡ cell
      → claims_of c (won v cell) + one_if (ltb 0 (state words c))
      ≡ claims_of c v + one_if (ltb 0 (state (set words (state_place cell) (v.number + 2)) c))
  here_claims cell c below empty e =
      let more = total-push (λ (d : Claimed). one_if (eqb d.cell c)) v.claims (record { cell = cell; number = v.number }) in
      let one = one_if-eq cell c (sym e) in
      let old = one_if-ge 0 (state words c) (let z : state words c ≡ 0 = ap (state words) e ∙ empty in omega arith) in
      let new = one_if-lt 0 (state (set words (state_place cell) (v.number + 2)) c)
      (let z : state (set words (state_place cell) (v.number + 2)) c ≡ v.number + 2 = ap (state (set words (state_place cell) (v.number + 2))) e ∙ now_claimed cell below in omega arith) in
      omega arith

  there_claims : (cell c : ℕ) → c ≢ cell
      → claims_of c (won v cell) + one_if (ltb 0 (state words c))
      ≡ claims_of c v + one_if (ltb 0 (state (set words (state_place cell) (v.number + 2)) c))
  there_claims cell c apart =
      let more = total-push (λ (d : Claimed). one_if (eqb d.cell c)) v.claims (record { cell = cell; number = v.number }) in
      let zero_more = one_if-other cell c (λ k. apart (sym k)) in
      let same : one_if (ltb 0 (state (set words (state_place cell) (v.number + 2)) c)) ≡ one_if (ltb 0 (state words c)) =
      ap (λ k. one_if (ltb 0 k)) (state-set_other words cell c (v.number + 2) apart) in
      omega arith

  won_fits : (cell : ℕ) → cell < cell_count bases → state words cell ≡ 0
      → Fits bases draws r.made (set words (state_place cell) (v.number + 2)) (won v cell)
  won_fits cell below empty =
      let words' : List ℕ = set words (state_place cell) (v.number + 2) in
      let now = now_claimed cell below in
      let stays = fits_stay bases draws r.made words words' v (kept_from_zero cell below empty) (claim_from_zero cell (v.number + 2) v.number empty) fit in
      record {
        bases_same = fit.bases_same;
        draws_same = fit.draws_same;
        first = fit.first;
        other = fit.other;
        joined_some = fit.joined_some;
        builds_one = (below, omega arith, now, (λ code none. absurd (omega arith)), Contains-push v.claims (record { cell = cell; number = v.number }));
        seen_cells = All-push (IsSeen bases words') v.seen cell stays.seen_cells (below, λ e. let two : v.number + 2 ≡ 0 = sym now ∙ e in absurd (omega arith));
        ready_cells = stays.ready_cells;
        claims_seen = All-push (λ e. Contains (v.seen ++ cell ∷ []) e.cell) v.claims (record { cell = cell; number = v.number })
            (All-weaker (λ e. Contains v.seen e.cell) (λ e. Contains (v.seen ++ cell ∷ []) e.cell)
            (λ e. Contains-append_left v.seen (cell ∷ []) e.cell) v.claims fit.claims_seen)
            (Contains-push v.seen cell);
        claims_own = All-push (λ e. 1 ≤ holding e.number v) v.claims (record { cell = cell; number = v.number }) fit.claims_own (holds_own v at.1);
        draws_own = fit.draws_own;
        not_late = fit.not_late;
      }

  won_built : (cell : ℕ) → cell < cell_count bases → state words cell ≡ 0 → (c : ℕ) → c < cell_count bases
      → state (set words (state_place cell) (v.number + 2)) c ≡ 1 → IsBuilt bases (set words (state_place cell) (v.number + 2)) c 256
  won_built cell below empty c small is = dite (ℕ_discrete c cell)
      (λ e. let two : v.number + 2 ≡ 1 = sym (ap (state (set words (state_place cell) (v.number + 2))) e ∙ now_claimed cell below) ∙ is in absurd (omega arith))
      (λ apart code few. (kept_from_zero cell below empty).widths c code small few
      (r.built c small (sym (state-set_other words cell c (v.number + 2) apart) ∙ is) code few))

  pub won_keeps : (cell : ℕ) → cell < cell_count bases → v.building ≡ None → state words cell ≡ 0
      → Rule bases draws (set words (state_place cell) (v.number + 2)) (set views seat (won v cell))
  won_keeps cell below free empty =
      step_keeps bases draws words (set words (state_place cell) (v.number + 2)) views seat v (won v cell) r at.0 record {
        live = at.1;
        size = length-set words (state_place cell) (v.number + 2);
        fits = won_fits cell below empty;
        others = λ j u apart there live. fits_stay bases draws r.made words (set words (state_place cell) (v.number + 2)) u (kept_from_zero cell below empty)
            (claim_from_zero cell (v.number + 2) u.number empty);
        numbers = λ n. refl;
        builders = λ c n small. dite (ℕ_discrete c cell) (here_builds cell c n below free empty) (there_builds cell c n free);
        built = won_built cell below empty;
        claims = λ c small. dite (ℕ_discrete c cell) (here_claims cell c below empty) (there_claims cell c);
        drawn = λ x. ap (λ k. draws_of x v + one_if (ltb x k)) (sym (draws-set_state words cell (v.number + 2)));
        late = late_stays (won v cell) refl;
      }

  -- the cell that the seat builds
  building_is : (b : Building) → v.building ≡ Some b → IsBuilding bases words v.number v.claims (Some b)
  building_is b is = subst (IsBuilding bases words v.number v.claims) is fit.builds_one

  stored_kept : (b : Building) (word : ℕ) → v.building ≡ Some b → b.stored < 256 → IsStored bases b.cell b.stored word
      → Keeps bases words (set words (width_place b.cell b.stored) word)
  stored_kept b word is more right = record {
    seen = λ c small full none. full (sym (state-set_width words b.cell b.stored c word more) ∙ none);
    ready = λ c small full. state-set_width words b.cell b.stored c word more ∙ full;
    widths = λ c code small few old. dite (ℕ_discrete (width_place c code) (width_place b.cell b.stored))
        (λ e. let one : c ≡ b.cell = omega arith in let two : code ≡ b.stored = omega arith in
        subst (λ (k : ℕ). IsStored bases c code k)
        (sym (ap (λ (k : ℕ). get_or (set words (width_place b.cell b.stored) word) k 0) e ∙ width-set_same bases words b.cell b.stored word r.size (building_is b is).0 more))
        (subst (λ (k : ℕ × ℕ). IsStored bases k.0 k.1 word) (λ i. (sym one i, sym two i)) right))
        (λ apart. subst (IsStored bases c code) (sym (width-set_other words b.cell b.stored c code word apart)) old);
  }

  stored_claim : (b : Building) (word number : ℕ) → b.stored < 256 → KeepsClaim bases words (set words (width_place b.cell b.stored) word) number
  stored_claim b word number more c small is = state-set_width words b.cell b.stored c word more ∙ is

  stored_built : (b : Building) (word : ℕ) → v.building ≡ Some b → b.stored < 256 → IsStored bases b.cell b.stored word
      → IsBuilt bases (set words (width_place b.cell b.stored) word) b.cell (b.stored + 1)
  stored_built b word is more right code below = dite (ℕ_discrete code b.stored)
      (λ e. subst (λ (k : ℕ). IsStored bases b.cell k (stored_width (set words (width_place b.cell b.stored) word) b.cell k)) (sym e)
      (subst (IsStored bases b.cell b.stored) (sym (width-set_same bases words b.cell b.stored word r.size (building_is b is).0 more)) right))
      (λ apart. (stored_kept b word is more right).widths b.cell code (building_is b is).0 (omega arith) ((building_is b is).3 code (omega arith)))

  pub stored_keeps : (b : Building) (word : ℕ) → v.building ≡ Some b → b.stored < 256 → IsStored bases b.cell b.stored word
      → Rule bases draws (set words (width_place b.cell b.stored) word) (set views seat (stored v b))
  stored_keeps b word is more right =
      let words' : List ℕ = set words (width_place b.cell b.stored) word in
      let kept = stored_kept b word is more right in
      let stays = fits_stay bases draws r.made words words' v kept (stored_claim b word v.number more) fit in
      step_keeps bases draws words words' views seat v (stored v b) r at.0 record {
        live = at.1;
        size = length-set words (width_place b.cell b.stored) word;
        fits = record {
          bases_same = fit.bases_same;
          draws_same = fit.draws_same;
          first = fit.first;
          other = fit.other;
          joined_some = fit.joined_some;
          builds_one = (
            (building_is b is).0,
            omega arith,
            state-set_width words b.cell b.stored b.cell word more ∙ (building_is b is).2,
            stored_built b word is more right,
            (building_is b is).4,
          );
          seen_cells = stays.seen_cells;
          ready_cells = stays.ready_cells;
          claims_seen = fit.claims_seen;
          claims_own = fit.claims_own;
          draws_own = fit.draws_own;
          not_late = fit.not_late;
        };
        others = λ j u apart there live. fits_stay bases draws r.made words words' u kept (stored_claim b word u.number more);
        numbers = λ n. refl;
        builders = λ c n small.
            let old : builds c n v ≡ builds c n (stored v b) = ap (λ (x : Option Building). if_live v.spent (builds_cell c n v.number x)) is in
            let same : one_if (eqb (state words' c) (n + 2)) ≡ one_if (eqb (state words c) (n + 2)) =
            ap (λ k. one_if (eqb k (n + 2))) (state-set_width words b.cell b.stored c word more) in
            omega arith;
        built = λ c small ready code few. kept.widths c code small few
            (r.built c small (sym (state-set_width words b.cell b.stored c word more) ∙ ready) code few);
        claims = λ c small. ap (λ k. claims_of c v + one_if (ltb 0 k)) (sym (state-set_width words b.cell b.stored c word more));
        drawn = λ x. ap (λ k. draws_of x v + one_if (ltb x k)) (sym (draws-set_width words b.cell b.stored word));
        late = late_stays (stored v b) refl;
      }

  published_kept : (b : Building) → v.building ≡ Some b → Keeps bases words (set words (state_place b.cell) 1)
  published_kept b is = record {
    seen = λ c small full. dite (ℕ_discrete c b.cell)
        (λ e none. let z : 1 ≡ 0 = sym (ap (state (set words (state_place b.cell) 1)) e ∙ state-set_same bases words b.cell 1 r.size (building_is b is).0) ∙ none in absurd (omega arith))
        (λ apart none. full (sym (state-set_other words b.cell c 1 apart) ∙ none));
    ready = λ c small full. dite (ℕ_discrete c b.cell)
        (λ e. ap (state (set words (state_place b.cell) 1)) e ∙ state-set_same bases words b.cell 1 r.size (building_is b is).0)
        (λ apart. state-set_other words b.cell c 1 apart ∙ full);
    widths = λ c code small few old. subst (IsStored bases c code) (sym (width-set_state words b.cell c code 1 few)) old;
  }

  published_claim : (b : Building) (number : ℕ) → v.building ≡ Some b → v.number ≢ number
      → KeepsClaim bases words (set words (state_place b.cell) 1) number
  published_claim b number is other c small claim = dite (ℕ_discrete c b.cell)
      (λ e. let z : v.number + 2 ≡ number + 2 = sym (building_is b is).2 ∙ (ap (state words) (sym e) ∙ claim) in absurd (other (omega arith)))
      (λ apart. state-set_other words b.cell c 1 apart ∙ claim)

  published_builds : (b : Building) (c n : ℕ) → v.building ≡ Some b
      → builds c n (published v b.cell) + one_if (eqb (state words c) (n + 2))
      ≡ builds c n v + one_if (eqb (state (set words (state_place b.cell) 1) c) (n + 2))
  published_builds b c n is =
      let nothing : builds c n (published v b.cell) ≡ 0 = live_is v.spent 0 at.1 in
      let old : builds c n v ≡ one_if (eqb b.cell c && eqb v.number n) =
      live_is v.spent (builds_cell c n v.number v.building) at.1 ∙ ap (builds_cell c n v.number) is in
      dite (ℕ_discrete c b.cell)
      (λ e.
      let mine = old ∙ and_true (eqb b.cell c) (eqb v.number n) (eq-eqb b.cell c (sym e)) in
      let before : one_if (eqb (state words c) (n + 2)) ≡ one_if (eqb v.number n) =
      ap (λ k. one_if (eqb k (n + 2))) (ap (state words) e ∙ (building_is b is).2) ∙ one_if-shift v.number n in
      let now : state (set words (state_place b.cell) 1) c ≡ 1 = (ap (state (set words (state_place b.cell) 1)) e ∙ state-set_same bases words b.cell 1 r.size (building_is b is).0) in
      let after = one_if-other (state (set words (state_place b.cell) 1) c) (n + 2) (λ k. omega arith) in
      omega arith)
      (λ apart.
      let mine = old ∙ and_false (eqb b.cell c) (eqb v.number n) (ne_eqb b.cell c (λ k. apart (sym k))) in
      let same : one_if (eqb (state (set words (state_place b.cell) 1) c) (n + 2)) ≡ one_if (eqb (state words c) (n + 2)) =
      ap (λ k. one_if (eqb k (n + 2))) (state-set_other words b.cell c 1 apart) in
      omega arith)

  published_claims : (b : Building) (c : ℕ) → v.building ≡ Some b
      → claims_of c (published v b.cell) + one_if (ltb 0 (state words c)) ≡ claims_of c v + one_if (ltb 0 (state (set words (state_place b.cell) 1) c))
  published_claims b c is = dite (ℕ_discrete c b.cell)
      (λ e.
      let before : state words c ≡ v.number + 2 = ap (state words) e ∙ (building_is b is).2 in
      let old = one_if-lt 0 (state words c) (omega arith) in
      let now : state (set words (state_place b.cell) 1) c ≡ 1 = (ap (state (set words (state_place b.cell) 1)) e ∙ state-set_same bases words b.cell 1 r.size (building_is b is).0) in
      let new = one_if-lt 0 (state (set words (state_place b.cell) 1) c) (omega arith) in
      omega arith)
      (λ apart. ap (λ k. claims_of c v + one_if (ltb 0 k)) (sym (state-set_other words b.cell c 1 apart)))

  published_fits : (b : Building) → v.building ≡ Some b → Fits bases draws r.made (set words (state_place b.cell) 1) (published v b.cell)
  published_fits b is =
      let kept = published_kept b is in
      let one : state (set words (state_place b.cell) 1) b.cell ≡ 1 = state-set_same bases words b.cell 1 r.size (building_is b is).0 in
      record {
        bases_same = fit.bases_same;
        draws_same = fit.draws_same;
        first = fit.first;
        other = fit.other;
        joined_some = fit.joined_some;
        builds_one = tt;
        seen_cells = All-weaker (IsSeen bases words) (IsSeen bases (set words (state_place b.cell) 1)) (λ x h. (h.0, kept.seen x h.0 h.1)) v.seen fit.seen_cells;
        ready_cells = All-push (IsReady bases (set words (state_place b.cell) 1)) v.ready b.cell
            (All-weaker (IsReady bases words) (IsReady bases (set words (state_place b.cell) 1)) (λ x h. (h.0, kept.ready x h.0 h.1)) v.ready fit.ready_cells)
            ((building_is b is).0, one);
        claims_seen = fit.claims_seen;
        claims_own = fit.claims_own;
        draws_own = fit.draws_own;
        not_late = fit.not_late;
      }

  pub published_keeps : (b : Building) → v.building ≡ Some b → b.stored ≡ 256
      → Rule bases draws (set words (state_place b.cell) 1) (set views seat (published v b.cell))
  published_keeps b is whole =
      step_keeps bases draws words (set words (state_place b.cell) 1) views seat v (published v b.cell) r at.0 record {
        live = at.1;
        size = length-set words (state_place b.cell) 1;
        fits = published_fits b is;
        others = λ j u apart there live. fits_stay bases draws r.made words (set words (state_place b.cell) 1) u (published_kept b is)
            (published_claim b u.number is (apart_numbers bases draws words views seat j v u r (λ e. apart (sym e)) at.0 there at.1 live));
        numbers = λ n. refl;
        builders = λ c n small. published_builds b c n is;
        built = λ c small ready code few. (published_kept b is).widths c code small few
            (dite (ℕ_discrete c b.cell)
            (λ e. subst (λ (k : ℕ). IsStored bases k code (stored_width words k code)) (sym e) ((building_is b is).3 code (omega arith)))
            (λ apart. r.built c small (sym (state-set_other words b.cell c 1 apart) ∙ ready) code few));
        claims = λ c small. published_claims b c is;
        drawn = λ x. ap (λ k. draws_of x v + one_if (ltb x k)) (sym (draws-set_state words b.cell 1));
        late = late_stays (published v b.cell) refl;
      }
