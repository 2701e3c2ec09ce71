-- The words of a table after one is set, and lists of cells with one more.
use Rattle.std.proofs.Common.{◌≡◌, ◌≢◌, ℕ, ◌<◌, refl, arith, Bool, true, false, cond, List, [], ◌∷◌, ◌++◌, length, set, get_or, eqb, get_or-set_same, get_or-set_other, All, Contains}
use Rattle.std.proofs.lemmas.Bool.Decides.{nat_tests}
use Rattle.std.proofs.lemmas.List.Elements.{All-push, Contains-append_left}
use Rattle.instance_core.specs.declared.font.BaseFont.{BaseFont}
use Rattle.instance_table.specs.Places.{cell_count, word_count, state_place, width_place, state, stored_width}
use Rattle.instance_table.specs.Rule.{IsSeen, IsReady}
use Rattle.instance_table.specs.Steps.{with_seen, with_ready}

pub state-set_same : (bases : List BaseFont) (words : List ℕ) (cell x : ℕ) → length words ≡ word_count bases → cell < cell_count bases
    → state (set words (state_place cell) x) cell ≡ x
state-set_same bases words cell x size below = get_or-set_same words (state_place cell) x 0 (omega arith)

pub state-set_other : (words : List ℕ) (cell other x : ℕ) → other ≢ cell → state (set words (state_place cell) x) other ≡ state words other
state-set_other words cell other x apart = get_or-set_other words (state_place cell) (state_place other) x 0 (λ e. apart (omega arith))

pub width-set_state : (words : List ℕ) (cell other code x : ℕ) → code < 256
    → stored_width (set words (state_place cell) x) other code ≡ stored_width words other code
width-set_state words cell other code x below =
    get_or-set_other words (state_place cell) (width_place other code) x 0 (λ e. omega arith)

pub draws-set_state : (words : List ℕ) (cell x : ℕ) → get_or (set words (state_place cell) x) 0 0 ≡ get_or words 0 0
draws-set_state words cell x = get_or-set_other words (state_place cell) 0 x 0 (λ e. omega arith)

pub state-set_width : (words : List ℕ) (cell code other x : ℕ) → code < 256
    → state (set words (width_place cell code) x) other ≡ state words other
state-set_width words cell code other x below =
    get_or-set_other words (width_place cell code) (state_place other) x 0 (λ e. omega arith)

pub draws-set_width : (words : List ℕ) (cell code x : ℕ) → get_or (set words (width_place cell code) x) 0 0 ≡ get_or words 0 0
draws-set_width words cell code x = get_or-set_other words (width_place cell code) 0 x 0 (λ e. omega arith)

pub width-set_same : (bases : List BaseFont) (words : List ℕ) (cell code x : ℕ) → length words ≡ word_count bases → cell < cell_count bases
    → code < 256 → stored_width (set words (width_place cell code) x) cell code ≡ x
width-set_same bases words cell code x size below small = get_or-set_same words (width_place cell code) x 0 (omega arith)

-- another width's place is another word
pub width-set_other : (words : List ℕ) (cell code other k x : ℕ) → width_place other k ≢ width_place cell code
    → stored_width (set words (width_place cell code) x) other k ≡ stored_width words other k
width-set_other words cell code other k x apart =
    get_or-set_other words (width_place cell code) (width_place other k) x 0 apart

pub seen_more : (bases : List BaseFont) (words cells : List ℕ) (cell : ℕ) → cell < cell_count bases → All (IsSeen bases words) cells
    → All (IsSeen bases words) (with_seen cell (state words cell) cells)
seen_more bases words cells cell below each = by_test (eqb (state words cell) 0) refl
  where
    by_test : (b : Bool) → eqb (state words cell) 0 ≡ b → All (IsSeen bases words) (cond b cells (cells ++ cell ∷ []))
    by_test true e = each
    by_test false e = All-push (IsSeen bases words) cells cell each (below, grind (arith, nat_tests))

pub ready_more : (bases : List BaseFont) (words cells : List ℕ) (cell : ℕ) → cell < cell_count bases → All (IsReady bases words) cells
    → All (IsReady bases words) (with_ready cell (state words cell) cells)
ready_more bases words cells cell below each = by_test (eqb (state words cell) 1) refl
  where
    by_test : (b : Bool) → eqb (state words cell) 1 ≡ b → All (IsReady bases words) (cond b (cells ++ cell ∷ []) cells)
    by_test true e = All-push (IsReady bases words) cells cell each (below, grind (arith, nat_tests))
    by_test false e = each

pub still_seen : (cells : List ℕ) (cell word x : ℕ) → Contains cells x → Contains (with_seen cell word cells) x
still_seen cells cell word x inside = by_test (eqb word 0)
  where
    by_test : (b : Bool) → Contains (cond b cells (cells ++ cell ∷ [])) x
    by_test true = inside
    by_test false = Contains-append_left cells (cell ∷ []) x inside
