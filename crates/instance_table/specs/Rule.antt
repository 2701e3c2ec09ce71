-- What holds of a table between any two steps: of its words, and of what each seat knows. A seat is live until it is
-- joined. Most of the rule says how often something stands, over all seats.
--     holding n v             how often a live seat has the number n, as its own or as that of a seat joined to it
--     builds cell n v         1 where a live seat of number n builds the cell
--     claims_of cell v        how many of a seat's claims are of the cell
--     draws_of x v            how many of its draws are x
--     late_of draws n v       how many of its draws are past the last and were drawn by seat n
--     Fits                    what holds of a live seat alone
--     Rule                    what holds of the table
use Rattle.std.specs.Prelude.{◌≡◌, ◌≢◌, ℕ, ◌+◌, ◌<◌, ◌≤◌, Bool, true, false, ◌&&◌, nat_eq, nat_lt, nat_le, List, [], length, slice_index, Option, Some, None, All, Contains}
use mathlib.Core.Option.{some}
use lib.ListN.{get_elem?}
use Rattle.instance_core.specs.declared.font.BaseFont.{BaseFont}
use Rattle.instance_table.specs.declared.view.Building.{Building}
use Rattle.instance_table.specs.declared.view.Claimed.{Claimed}
use Rattle.instance_table.specs.declared.view.Drawn.{Drawn}
use Rattle.instance_table.specs.declared.view.LastStep.TheVariants.{NoStep}
use Rattle.instance_table.specs.declared.view.View.{View}
use Rattle.instance_table.specs.Places.{cell_count, word_count, state, IsBuilt}
use Rattle.instance_table.specs.Totals.{total, one_if, times}

-- 0 for a seat that was joined
abbrev pub if_live : Bool → ℕ → ℕ
if_live true n = 0
if_live false n = n

abbrev pub holding : ℕ → View → ℕ
holding n v = if_live v.spent (one_if (nat_eq v.number n) + times n v.joined)

abbrev pub builds_cell : ℕ → ℕ → ℕ → Option Building → ℕ
builds_cell cell n number None = 0
builds_cell cell n number (Some b) = one_if (nat_eq b.cell cell && nat_eq number n)

abbrev pub builds : ℕ → ℕ → View → ℕ
builds cell n v = if_live v.spent (builds_cell cell n v.number v.building)

abbrev pub claims_in : ℕ → List Claimed → ℕ
claims_in cell claims = total (λ e. one_if (nat_eq e.cell cell)) claims

abbrev pub claims_of : ℕ → View → ℕ
claims_of cell v = claims_in cell v.claims

abbrev pub draws_in : ℕ → List Drawn → ℕ
draws_in x drawn = total (λ e. one_if (nat_eq e.draw x)) drawn

abbrev pub draws_of : ℕ → View → ℕ
draws_of x v = draws_in x v.drawn

abbrev pub late_in : ℕ → ℕ → List Drawn → ℕ
late_in draws n drawn = total (λ e. one_if (nat_le draws e.draw && nat_eq e.number n)) drawn

abbrev pub late_of : ℕ → ℕ → View → ℕ
late_of draws n v = late_in draws n v.drawn

-- a seat that was joined knows nothing
abbrev pub spent_view : View
spent_view = record {
  number = 0;
  bases = [];
  draws = 0;
  claims = [];
  drawn = [];
  building = None;
  seen = [];
  ready = [];
  ended = false;
  last = NoStep;
  taken = 0;
  made = 0;
  joined = [];
  spent = true;
}

-- the cell being built was claimed by the seat of this number, which stands in its state, and so many widths are stored
abbrev pub IsBuilding : List BaseFont → List ℕ → ℕ → List Claimed → Option Building → Type 0
IsBuilding bases words number claims None = Unit {0}
IsBuilding bases words number claims (Some b) =
    (b.cell < cell_count bases)
    × (b.stored ≤ 256)
    × (state words b.cell ≡ number + 2)
    × IsBuilt bases words b.cell b.stored
    × Contains claims (record { cell = b.cell; number = number })

-- the cell is not empty
abbrev pub IsSeen : List BaseFont → List ℕ → ℕ → Type 0
IsSeen bases words cell = (cell < cell_count bases) × (state words cell ≢ 0)

-- the cell is built
abbrev pub IsReady : List BaseFont → List ℕ → ℕ → Type 0
IsReady bases words cell = (cell < cell_count bases) × (state words cell ≡ 1)

pub record Fits (bases : List BaseFont) (draws made : ℕ) (words : List ℕ) (v : View) : Type 0 where
  pub bases_same : v.bases ≡ bases
  pub draws_same : v.draws ≡ draws
  pub first : v.number ≡ 0 → v.made ≡ made
  pub other : v.number ≢ 0 → v.joined ≡ []
  pub joined_some : times 0 v.joined ≡ 0
  pub builds_one : IsBuilding bases words v.number v.claims v.building
  pub seen_cells : All (IsSeen bases words) v.seen
  pub ready_cells : All (IsReady bases words) v.ready
  pub claims_seen : All (λ e. Contains v.seen e.cell) v.claims
  pub claims_own : All (λ e. 1 ≤ holding e.number v) v.claims
  pub draws_own : All (λ e. 1 ≤ holding e.number v) v.drawn
  pub not_late : v.ended ≡ false → late_of draws v.number v ≡ 0

pub record Rule (bases : List BaseFont) (draws : ℕ) (words : List ℕ) (views : List View) : Type 0 where
  pub made : ℕ
  pub few_seats : made < 4294967296
  pub few_draws : draws < 4294967296
  pub size : length words ≡ word_count bases
  pub live : (seat : ℕ) (v : View) → get_elem? views seat ≡ some v → v.spent ≡ false → Fits bases draws made words v
  pub joined : (seat : ℕ) (v : View) → get_elem? views seat ≡ some v → v.spent ≡ true → v ≡ spent_view
  pub numbers : (n : ℕ) → total (holding n) views ≡ one_if (nat_lt n made)
  pub builders : (cell n : ℕ) → cell < cell_count bases
      → total (builds cell n) views ≡ one_if (nat_eq (state words cell) (n + 2))
  pub built : (cell : ℕ) → cell < cell_count bases → state words cell ≡ 1 → IsBuilt bases words cell 256
  pub claims : (cell : ℕ) → cell < cell_count bases
      → total (claims_of cell) views ≡ one_if (nat_lt 0 (state words cell))
  pub drawn : (x : ℕ) → total (draws_of x) views ≡ one_if (nat_lt x (slice_index words 0))
  pub late : (n : ℕ) → total (late_of draws n) views ≤ 1
