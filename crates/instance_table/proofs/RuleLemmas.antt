-- What keeps the rule when one seat steps.
use Rattle.std.proofs.Common.{◌≡◌, ◌≢◌, ℕ, ◌+◌, ◌<◌, ◌≤◌, refl, ap, sym, ◌∙◌, subst, arith, Bool, true, false, ◌&&◌, List, length, set, get_or, eqb, ltb, ⊎_elim, Option, Some, None}
use Rattle.std.proofs.lemmas.Bool.{false≢true}
use Rattle.std.proofs.lemmas.List.Elements.{All-weaker}
use mathlib.Core.Option.{some}
use lib.ListN.{get_elem?}
use Rattle.atomic_table.proofs.Lists.{at_set}
use Rattle.instance_core.specs.declared.font.BaseFont.{BaseFont}
use Rattle.instance_table.specs.declared.view.Building.{Building}
use Rattle.instance_table.specs.declared.view.Claimed.{Claimed}
use Rattle.instance_table.specs.declared.view.View.{View}
use Rattle.instance_table.specs.Places.{cell_count, state, stored_width, IsStored, IsBuilt}
use Rattle.instance_table.specs.Rule.{Rule, Fits, if_live, holding, builds, builds_cell, claims_of, draws_of, late_of, IsBuilding, IsSeen, IsReady}
use Rattle.instance_table.specs.Totals.{total, one_if, times}
use Rattle.instance_table.proofs.TotalLemmas.{one_if-same, one_if-eq, one_if-small, total-set, total-set_same, total-one, total-two, total-below, one_if-below}

pub live_is : (b : Bool) (n : ℕ) → b ≡ false → if_live b n ≡ n
live_is b n e = ap (λ (x : Bool). if_live x n) e

-- what the words keep: a cell that isn't empty stays so, a built one stays built, and stored widths stay
pub record Keeps (bases : List BaseFont) (words words' : List ℕ) : Type 0 where
  pub seen : (cell : ℕ) → cell < cell_count bases → state words cell ≢ 0 → state words' cell ≢ 0
  pub ready : (cell : ℕ) → cell < cell_count bases → state words cell ≡ 1 → state words' cell ≡ 1
  pub widths : (cell code : ℕ) → cell < cell_count bases → code < 256
      → IsStored bases cell code (stored_width words cell code) → IsStored bases cell code (stored_width words' cell code)

-- the claim of this number stays on each cell
abbrev pub KeepsClaim : List BaseFont → List ℕ → List ℕ → ℕ → Type 0
KeepsClaim bases words words' number =
    (cell : ℕ) → cell < cell_count bases → state words cell ≡ number + 2 → state words' cell ≡ number + 2

pub still_building : (bases : List BaseFont) (words words' : List ℕ) (number : ℕ) (claims : List Claimed) (b : Option Building)
    → Keeps bases words words' → KeepsClaim bases words words' number
    → IsBuilding bases words number claims b → IsBuilding bases words' number claims b
still_building bases words words' number claims None kept claim is = tt
still_building bases words words' number claims (Some b) kept claim is = (
  is.0,
  is.1,
  claim b.cell is.0 is.2,
  (λ code below. kept.widths b.cell code is.0 (let few = is.1 in omega arith) (is.3 code below)),
  is.4,
)

pub fits_stay : (bases : List BaseFont) (draws made : ℕ) (words words' : List ℕ) (u : View)
    → Keeps bases words words' → KeepsClaim bases words words' u.number
    → Fits bases draws made words u → Fits bases draws made words' u
fits_stay bases draws made words words' u kept claim fit = record {
  bases_same = fit.bases_same;
  draws_same = fit.draws_same;
  first = fit.first;
  other = fit.other;
  joined_some = fit.joined_some;
  builds_one = still_building bases words words' u.number u.claims u.building kept claim fit.builds_one;
  seen_cells = All-weaker (IsSeen bases words) (IsSeen bases words') (λ x h. (h.0, kept.seen x h.0 h.1)) u.seen fit.seen_cells;
  ready_cells = All-weaker (IsReady bases words) (IsReady bases words') (λ x h. (h.0, kept.ready x h.0 h.1)) u.ready fit.ready_cells;
  claims_seen = fit.claims_seen;
  claims_own = fit.claims_own;
  draws_own = fit.draws_own;
  not_late = fit.not_late;
}

-- a step of one seat, which sets its view
pub record Owes (bases : List BaseFont) (draws made : ℕ) (words words' : List ℕ) (views : List View) (seat : ℕ) (v w : View) : Type 0 where
  pub live : w.spent ≡ false
  pub size : length words' ≡ length words
  pub fits : Fits bases draws made words' w
  pub others : (j : ℕ) (u : View) → j ≢ seat → get_elem? views j ≡ some u → u.spent ≡ false
      → Fits bases draws made words u → Fits bases draws made words' u
  pub numbers : (n : ℕ) → holding n w ≡ holding n v
  pub builders : (cell n : ℕ) → cell < cell_count bases
      → builds cell n w + one_if (eqb (state words cell) (n + 2)) ≡ builds cell n v + one_if (eqb (state words' cell) (n + 2))
  pub built : (cell : ℕ) → cell < cell_count bases → state words' cell ≡ 1 → IsBuilt bases words' cell 256
  pub claims : (cell : ℕ) → cell < cell_count bases
      → claims_of cell w + one_if (ltb 0 (state words cell)) ≡ claims_of cell v + one_if (ltb 0 (state words' cell))
  pub drawn : (x : ℕ) → draws_of x w + one_if (ltb x (get_or words 0 0)) ≡ draws_of x v + one_if (ltb x (get_or words' 0 0))
  pub late : (n : ℕ) → total (late_of draws n) (set views seat w) ≤ 1

pub step_keeps : (bases : List BaseFont) (draws : ℕ) (words words' : List ℕ) (views : List View) (seat : ℕ) (v w : View)
    (r : Rule bases draws words views) → get_elem? views seat ≡ some v
    → Owes bases draws r.made words words' views seat v w → Rule bases draws words' (set views seat w)
step_keeps bases draws words words' views seat v w r at owes = record {
  made = r.made;
  few_seats = r.few_seats;
  few_draws = r.few_draws;
  size = owes.size ∙ r.size;
  live = λ j u there alive. ⊎_elim
      (λ (t : (j ≡ seat) × (w ≡ u)). subst (Fits bases draws r.made words') t.1 owes.fits)
      (λ (t : (j ≢ seat) × (get_elem? views j ≡ some u)). owes.others j u t.0 t.1 alive (r.live j u t.1 alive))
      (at_set views seat j w u there);
  joined = λ j u there spent. ⊎_elim
      (λ (t : (j ≡ seat) × (w ≡ u)). absurd (false≢true (sym owes.live ∙ (ap (λ (x : View). x.spent) t.1 ∙ spent))))
      (λ (t : (j ≢ seat) × (get_elem? views j ≡ some u)). r.joined j u t.1 spent)
      (at_set views seat j w u there);
  numbers = λ n. total-set_same (holding n) views seat v w at (owes.numbers n) ∙ r.numbers n;
  builders = λ cell n below.
      let change = total-set (builds cell n) views seat v w at in
      let before = r.builders cell n below in
      let owed = owes.builders cell n below in omega arith;
  built = owes.built;
  claims = λ cell below.
      let change = total-set (claims_of cell) views seat v w at in
      let before = r.claims cell below in
      let owed = owes.claims cell below in omega arith;
  drawn = λ x.
      let change = total-set (draws_of x) views seat v w at in
      let before = r.drawn x in
      let owed = owes.drawn x in omega arith;
  late = owes.late;
}

-- a step that leaves the words as they are and changes no number, claim or draw
pub knows_more : (bases : List BaseFont) (draws : ℕ) (words : List ℕ) (views : List View) (seat : ℕ) (v w : View)
    (r : Rule bases draws words views) → get_elem? views seat ≡ some v → w.spent ≡ false
    → Fits bases draws r.made words w
    → ((n : ℕ) → holding n w ≡ holding n v) → ((cell n : ℕ) → builds cell n w ≡ builds cell n v)
    → ((cell : ℕ) → claims_of cell w ≡ claims_of cell v) → ((x : ℕ) → draws_of x w ≡ draws_of x v)
    → ((n : ℕ) → late_of draws n w ≡ late_of draws n v)
    → Rule bases draws words (set views seat w)
knows_more bases draws words views seat v w r at alive fits numbers builders claims drawn late =
    step_keeps bases draws words words views seat v w r at record {
      live = alive;
      size = refl;
      fits = fits;
      others = λ j u apart there live fit. fit;
      numbers = numbers;
      builders = λ cell n below. ap (λ k. k + one_if (eqb (state words cell) (n + 2))) (builders cell n);
      built = r.built;
      claims = λ cell below. ap (λ k. k + one_if (ltb 0 (state words cell))) (claims cell);
      drawn = λ x. ap (λ k. k + one_if (ltb x (get_or words 0 0))) (drawn x);
      late = λ n. let same = total-set_same (late_of draws n) views seat v w at (late n) in let before = r.late n in omega arith;
    }

-- a live seat has its own number
pub holds_own : (v : View) → v.spent ≡ false → 1 ≤ holding v.number v
holds_own v alive =
    let is = live_is v.spent (one_if (eqb v.number v.number) + times v.number v.joined) alive in
    let own = one_if-same v.number in omega arith

pub own_below : (bases : List BaseFont) (draws : ℕ) (words : List ℕ) (views : List View) (seat n : ℕ) (v : View)
    (r : Rule bases draws words views) → get_elem? views seat ≡ some v → 1 ≤ holding n v → n < r.made
own_below bases draws words views seat n v r at some_of =
    let most = total-one (holding n) views seat v at in let all = r.numbers n in one_if-below n r.made (omega arith)

-- two live seats have different numbers
pub apart_numbers : (bases : List BaseFont) (draws : ℕ) (words : List ℕ) (views : List View) (i j : ℕ) (v u : View)
    → Rule bases draws words views → i ≢ j → get_elem? views i ≡ some v → get_elem? views j ≡ some u
    → v.spent ≡ false → u.spent ≡ false → v.number ≢ u.number
apart_numbers bases draws words views i j v u r apart at there alive live same =
    let n = v.number in
    let both = total-two (holding n) views i j v u apart at there in
    let all = r.numbers n in let small = one_if-small (ltb n r.made) in
    let mine = holds_own v alive in
    let theirs : 1 ≤ holding n u = subst (λ (k : ℕ). 1 ≤ holding k u) (sym same) (holds_own u live) in omega arith

builds_least : (cell n number rest : ℕ) (b : Option Building) → builds_cell cell n number b ≤ one_if (eqb number n) + rest
builds_least cell n number rest None = omega arith
builds_least cell n number rest (Some b) = by_test (eqb b.cell cell) (eqb number n)
  where
    by_test : (x y : Bool) → one_if (x && y) ≤ one_if y + rest
    by_test true y = omega arith
    by_test false y = omega arith

builds_holds : (cell n : ℕ) (v : View) → builds cell n v ≤ holding n v
builds_holds cell n v = by_spent v.spent
  where
    by_spent : (b : Bool) → if_live b (builds_cell cell n v.number v.building) ≤ if_live b (one_if (eqb v.number n) + times n v.joined)
    by_spent true = omega arith
    by_spent false = builds_least cell n v.number (times n v.joined) v.building

-- a seat that builds nothing finds no claim of its own
pub no_own_claim : (bases : List BaseFont) (draws : ℕ) (words : List ℕ) (views : List View) (seat : ℕ) (v : View)
    → Rule bases draws words views → get_elem? views seat ≡ some v → v.spent ≡ false → v.building ≡ None
    → (cell : ℕ) → cell < cell_count bases → state words cell ≢ v.number + 2
no_own_claim bases draws words views seat v r at alive free cell below own =
    let n = v.number in
    let less = total-below (builds cell n) (holding n) (builds_holds cell n) views seat v at in
    let all = r.numbers n in let small = one_if-small (ltb n r.made) in
    let mine = holds_own v alive in
    let nothing : builds cell n v ≡ 0 =
    live_is v.spent (builds_cell cell n n v.building) alive ∙ ap (builds_cell cell n n) free in
    let some_builder = r.builders cell n below in
    let is_one = one_if-eq (state words cell) (n + 2) own in omega arith
