-- What each step tells the seat that makes it: its view afterwards, by the word found, and what it learned of that word.
--     Looks, Tries, Stores, Publishes, Reads, Draws    the steps
--     Learns    a load that leaves the view as it is, and tells what holds of it
use Rattle.std.specs.Prelude.{◌≡◌, ◌≢◌, ℕ, ◌+◌, ◌<◌, ◌≤◌, length, List, [], Option, Some, All, Contains}
use Rattle.atomic_table.specs.Table.{Me, Step}
use Rattle.instance_table.specs.declared.view.Building.{Building}
use Rattle.instance_table.specs.declared.view.View.{View}
use Rattle.instance_table.specs.Places.{cell_count, state_place, width_place, IsStored}
use Rattle.instance_table.specs.Rule.{holding}
use Rattle.instance_table.specs.Steps.{looked, tried, stored, published, has_read, drew}

-- what a word found in a cell's state says to a seat that builds nothing: it is no claim of its own, and no less than it knew
pub record IsNews (v : View) (cell found : ℕ) : Type 0 where
  pub another : found ≢ v.number + 2
  pub seen : Contains v.seen cell → found ≢ 0
  pub ready : Contains v.ready cell → found ≡ 1

-- what holds of a live seat's view
pub record IsKnown (v : View) : Type 0 where
  pub few_claims : length v.claims ≤ cell_count v.bases
  pub claims_own : All (λ e. 1 ≤ holding e.number v) v.claims
  pub draws_own : All (λ e. 1 ≤ holding e.number v) v.drawn
  pub other : v.number ≢ 0 → v.joined ≡ []
  pub joined : v.number ≡ 0 → All (λ n. (n ≢ 0) × (n < v.made)) v.joined

abbrev pub Looks : Step ℕ → Me ℕ View → ℕ → Me ℕ View → Type 0
Looks st me found me' = (cell : ℕ) → st.word ≡ state_place cell
    → (me'.1 ≡ me.1) × (me'.0 ≡ looked me.0 cell found) × IsNews me.0 cell found

abbrev pub Tries : Step ℕ → Me ℕ View → ℕ → Me ℕ View → Type 0
Tries st me found me' = (cell : ℕ) → st.word ≡ state_place cell
    → (me'.1 ≡ me.1) × (me'.0 ≡ tried me.0 cell found) × IsNews me.0 cell found × (length me'.0.claims ≤ cell_count me.0.bases)

abbrev pub Stores : Step ℕ → Me ℕ View → ℕ → Me ℕ View → Type 0
Stores st me found me' = (b : Building) → me.0.building ≡ Some b → (me'.1 ≡ me.1) × (me'.0 ≡ stored me.0 b)

abbrev pub Publishes : Step ℕ → Me ℕ View → ℕ → Me ℕ View → Type 0
Publishes st me found me' = (b : Building) → me.0.building ≡ Some b → (me'.1 ≡ me.1) × (me'.0 ≡ published me.0 b.cell)

abbrev pub Reads : Step ℕ → Me ℕ View → ℕ → Me ℕ View → Type 0
Reads st me found me' = (cell code : ℕ) → st.word ≡ width_place cell code → code < 256 → Contains me.0.ready cell
    → (me'.1 ≡ me.1) × (me'.0 ≡ has_read me.0 cell code found) × IsStored me.0.bases cell code found

abbrev pub Draws : Step ℕ → Me ℕ View → ℕ → Me ℕ View → Type 0
Draws st me found me' = (me'.1 ≡ me.1) × (me'.0 ≡ drew me.0 found) × All (λ d. d.draw < found) me.0.drawn

abbrev pub Learns : Step ℕ → Me ℕ View → ℕ → Me ℕ View → Type 0
Learns st me found me' = (me' ≡ me) × IsKnown me.0
