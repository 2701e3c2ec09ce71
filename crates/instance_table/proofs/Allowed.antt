-- Each step is allowed, and tells what it is to tell.
use Rattle.std.proofs.Common.{◌≡◌, ◌≢◌, ◌⊎◌, ℕ, ◌+◌, ◌*◌, ◌%◌, ◌^◌, ◌<◌, ◌≤◌, refl, ap, sym, ◌∙◌, subst, arith, Bool, true, false, cond, List, [], ◌∷◌, ◌++◌, length, set, get_or, eqb, Option, Some, None, All, Contains, eq-eqb, ne_eqb}
use mathlib.Core.Option.{some, none}
use native.Mathlib.Decide.{ℕ_discrete}
use prog.Atomic.{either}
use lib.ListN.{get_elem?}
use lib.Seq.{set-get_or}
use Rattle.atomic_table.specs.Table.{State, Me, step, keeps, Allows, Splits, Joins}
use Rattle.atomic_table.proofs.Lists.{exchanged, set_again, set_else}
use Rattle.instance_core.specs.declared.font.BaseFont.{BaseFont}
use Rattle.instance_table.specs.declared.view.Building.{Building}
use Rattle.instance_table.specs.declared.view.View.{View}
use Rattle.instance_table.specs.Places.{cell_count, state, state_place, width_place, stored_width, IsStored}
use Rattle.instance_table.specs.Plays.{IsNews, IsKnown, Looks, Tries, Stores, Publishes, Reads, Draws, Learns}
use Rattle.instance_table.specs.Rule.{Rule, spent_view, IsReady}
use Rattle.instance_table.specs.Steps.{looked, lost, won, tried, stored, published, has_read, drew, after_split, split_off, joined_with, IsSeat}
use Rattle.instance_table.proofs.CellSteps.{looked_keeps, lost_keeps, won_keeps, stored_keeps, published_keeps, read_keeps}
use Rattle.instance_table.proofs.SeatSteps.{drew_keeps, split_keeps, join_keeps}
use Rattle.instance_table.proofs.Learned.{news, few_claims, draws_rise, few_drawn, known, seat_here}
use Rattle.std.proofs.lemmas.List.Elements.{All-contains}

module _ (bases : List BaseFont) (draws : ℕ) where
  abbrev pub holds : State ℕ View → Type 0
  holds s = Rule bases draws s.words s.views

  same_cell_place : (a b : ℕ) → state_place a ≡ state_place b → a ≡ b
  same_cell_place a b e = omega arith

  -- a load keeps the words
  loads : (words : List ℕ) (views : List View) (i : ℕ) → Rule bases draws words views → Rule bases draws (set words i (get_or words i 0)) views
  loads words views i r = subst (λ (ws : List ℕ). Rule bases draws ws views) (sym (set-get_or words i 0)) r

  pub allows_look : (slots id cell : ℕ) (me : Me ℕ View) → me.0.spent ≡ false → me.0.building ≡ None → cell < cell_count bases
      → Allows holds slots id me (state_place cell) (λ n. n) (Looks (step slots (state_place cell) 0 0 none) me)
  allows_look slots id cell me live free below s r homes at small = (
    looked me.0 cell (state s.words cell),
    keeps,
    tt,
    loads s.words (set s.views id (looked me.0 cell (state s.words cell))) (state_place cell)
        (looked_keeps bases draws s.words s.views id me.0 r (at, live) cell below),
    (λ c same. subst (λ (k : ℕ). (me.1 ≡ me.1) × (looked me.0 cell (state s.words cell) ≡ looked me.0 k (state s.words cell)) × IsNews me.0 k (state s.words cell))
        (same_cell_place cell c same) (refl, refl, news bases draws s.words s.views id me.0 r (at, live) cell free below)),
  )

  tried_won : (v : View) (cell word : ℕ) → word ≡ 0 → tried v cell word ≡ won v cell
  tried_won v cell word e = ap (λ (b : Bool). cond b (won v cell) (lost v cell word)) (eq-eqb word 0 e)

  tried_lost : (v : View) (cell word : ℕ) → word ≢ 0 → tried v cell word ≡ lost v cell word
  tried_lost v cell word e = ap (λ (b : Bool). cond b (won v cell) (lost v cell word)) (ne_eqb word 0 e)

  tried_live : (v : View) (cell word : ℕ) → (tried v cell word).spent ≡ v.spent
  tried_live v cell word = by_test (eqb word 0)
    where
      by_test : (b : Bool) → (cond b (won v cell) (lost v cell word)).spent ≡ v.spent
      by_test true = refl
      by_test false = refl

  tried_keeps : (words : List ℕ) (views : List View) (id cell : ℕ) (v : View) → Rule bases draws words views → IsSeat views id v → v.building ≡ None → cell < cell_count bases
      → Rule bases draws (set words (state_place cell) (either (eqb (state words cell) 0) (v.number + 2) (state words cell))) (set views id (tried v cell (state words cell)))
  tried_keeps words views id cell v r at free below =
      exchanged (state words cell) 0 (v.number + 2)
      (λ n. Rule bases draws (set words (state_place cell) n) (set views id (tried v cell (state words cell))))
      (λ e. subst (λ (w : View). Rule bases draws (set words (state_place cell) (v.number + 2)) (set views id w)) (sym (tried_won v cell (state words cell) e))
      (won_keeps bases draws words views id v r at cell below free e))
      (λ full. loads words (set views id (tried v cell (state words cell))) (state_place cell)
      (subst (λ (w : View). Rule bases draws words (set views id w)) (sym (tried_lost v cell (state words cell) full))
      (lost_keeps bases draws words views id v r at cell below)))

  pub allows_claim : (slots id cell mine : ℕ) (me : Me ℕ View) → me.0.spent ≡ false → me.0.building ≡ None → cell < cell_count bases → me.0.bases ≡ bases
      → mine ≡ me.0.number + 2
      → Allows holds slots id me (state_place cell) (λ n. either (eqb n 0) mine n) (Tries (step slots (state_place cell) 0 mine none) me)
  allows_claim slots id cell mine me live free below bases_same is s r homes at small =
      let w : View = tried me.0 cell (state s.words cell) in
      let words' : List ℕ = set s.words (state_place cell) (either (eqb (state s.words cell) 0) mine (state s.words cell)) in
      let after : Rule bases draws words' (set s.views id w) =
      subst (λ (k : ℕ). Rule bases draws (set s.words (state_place cell) (either (eqb (state s.words cell) 0) k (state s.words cell))) (set s.views id w)) (sym is)
      (tried_keeps s.words s.views id cell me.0 r (at, live) free below) in
      let few : length w.claims ≤ cell_count me.0.bases = subst (λ (bs : List BaseFont). length w.claims ≤ cell_count bs) (sym bases_same)
      (few_claims bases draws words' (set s.views id w) id w after (seat_here s.views id me.0 w at, tried_live me.0 cell (state s.words cell) ∙ live)) in (
        w,
        keeps,
        tt,
        after,
        (λ c same. subst (λ (k : ℕ). (me.1 ≡ me.1) × (w ≡ tried me.0 k (state s.words cell)) × IsNews me.0 k (state s.words cell) × (length w.claims ≤ cell_count me.0.bases))
            (same_cell_place cell c same) (refl, refl, news bases draws s.words s.views id me.0 r (at, live) cell free below, few)),
      )

  same_some : (b c : Building) → Some b ≡ Some c → b ≡ c
  same_some b c e = cc

  pub allows_store : (slots id word : ℕ) (b : Building) (me : Me ℕ View) → me.0.spent ≡ false → me.0.building ≡ Some b → b.stored < 256 → IsStored bases b.cell b.stored word
      → Allows holds slots id me (width_place b.cell b.stored) (λ _. word) (λ _. Stores (step slots (width_place b.cell b.stored) word 0 none) me word)
  allows_store slots id word b me live is more right s r homes at small = (
    stored me.0 b,
    keeps,
    tt,
    stored_keeps bases draws s.words s.views id me.0 r (at, live) b word is more right,
    (λ c same. (refl, ap (stored me.0) (same_some b c (sym is ∙ same)))),
  )

  pub allows_publish : (slots id : ℕ) (b : Building) (me : Me ℕ View) → me.0.spent ≡ false → me.0.building ≡ Some b → b.stored ≡ 256
      → Allows holds slots id me (state_place b.cell) (λ _. 1) (λ _. Publishes (step slots (state_place b.cell) 1 0 none) me 1)
  allows_publish slots id b me live is whole s r homes at small = (
    published me.0 b.cell,
    keeps,
    tt,
    published_keeps bases draws s.words s.views id me.0 r (at, live) b is whole,
    (λ c same. (refl, ap (λ (x : Building). published me.0 x.cell) (same_some b c (sym is ∙ same)))),
  )

  pub allows_read : (slots id cell code : ℕ) (me : Me ℕ View) → me.0.spent ≡ false → me.0.bases ≡ bases → Contains me.0.ready cell → code < 256
      → Allows holds slots id me (width_place cell code) (λ n. n) (Reads (step slots (width_place cell code) 0 0 none) me)
  allows_read slots id cell code me live bases_same inside few s r homes at small =
      let found = stored_width s.words cell code in
      let w : View = has_read me.0 cell code found in (
        w,
        keeps,
        tt,
        loads s.words (set s.views id w) (width_place cell code) (read_keeps bases draws s.words s.views id me.0 r (at, live) cell code found),
        (λ c k same below there.
            let one : cell ≡ c = omega arith in let two : code ≡ k = omega arith in
            let is = All-contains (IsReady bases s.words) me.0.ready cell (r.live id me.0 at live).ready_cells inside in
            let right : IsStored me.0.bases cell code found = subst (λ (bs : List BaseFont). IsStored bs cell code found) (sym bases_same) (r.built cell is.0 is.1 code few) in
            subst (λ (p : ℕ × ℕ). (me.1 ≡ me.1) × (w ≡ has_read me.0 p.0 p.1 found) × IsStored me.0.bases p.0 p.1 found) (λ i. (one i, two i)) (refl, refl, right)),
      )

  no_wrap : (n : ℕ) → n + 1 < 18446744073709551616 → (n + 1) % 18446744073709551616 ≡ n + 1
  no_wrap n h = omega arith

  pub allows_draw : (slots id : ℕ) (me : Me ℕ View) → me.0.spent ≡ false → me.0.ended ≡ false
      → Allows holds slots id me 0 (λ n. (n + 1) % 18446744073709551616) (Draws (step slots 0 1 0 none) me)
  allows_draw slots id me live going s r homes at small =
      let few = few_drawn bases draws s.words s.views r in
      let seats = r.few_seats in let count = r.few_draws in
      let same = no_wrap (get_or s.words 0 0) (omega arith) in (
        drew me.0 (get_or s.words 0 0),
        keeps,
        tt,
        subst (λ (n : ℕ). Rule bases draws (set s.words 0 n) (set s.views id (drew me.0 (get_or s.words 0 0)))) (sym same)
            (drew_keeps bases draws s.words s.views id me.0 r (at, live) going),
        (refl, refl, draws_rise bases draws s.words s.views id me.0 r (at, live)),
      )

  unchanged : (views : List View) (id : ℕ) (v : View) → get_elem? views id ≡ some v → set views id v ≡ views
  unchanged views id v at = set_again views id v at

  pub allows_learn : (slots id : ℕ) (me : Me ℕ View) → me.0.spent ≡ false
      → Allows holds slots id me 0 (λ n. n) (Learns (step slots 0 0 0 none) me)
  allows_learn slots id me live s r homes at small = (
    me.0,
    keeps,
    tt,
    loads s.words (set s.views id me.0) 0 (subst (Rule bases draws s.words) (sym (unchanged s.views id me.0 at)) r),
    (refl, known bases draws s.words s.views id me.0 r (at, live)),
  )

  pub allows_split : (id : ℕ) (v : View) → v.spent ≡ false → v.number ≡ 0 → v.made < 4294967295
      → Splits holds id v (after_split v) (split_off v)
  allows_split id v live first more s r at = split_keeps bases draws s.words s.views id v r (at, live) first more

  pub allows_join : (id : ℕ) (v : View) (other : ℕ) (w : View) → v.spent ≡ false → w.spent ≡ false → v.number ≡ 0 → v.building ≡ None → w.building ≡ None
      → Joins holds id v other w (joined_with v w) spent_view
  allows_join id v other w live live' first free free' s r at apart there =
      join_keeps bases draws s.words s.views id v r (at, live) other w
      (sym (set_else s.views id other (joined_with v w) apart) ∙ there, live') (λ e. apart (sym e)) first free free'
