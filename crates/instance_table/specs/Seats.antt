-- Tables and seats as contracts see them, and what the calls answer.
--     Standing        a table: which it is, its fonts and how many draws it has
--     Sitting         a seat: which table's it is, and what it knows
--     IsSeatOf        the seat is the table's
--     IsSat           what a seat keeps beside its view
--     Finds, Wins, ReadsWidth, DrawsOne  what a look, a claim, a width and a draw do and answer
use Rattle.std.specs.Prelude.{◌≡◌, ◌≢◌, ℕ, ◌+◌, ◌<◌, ◌≤◌, Bool, false, nat_eq, nat_lt, ℤ, pos, ◌+ℤ◌, List, [], length, Option, Some, None, All, Contains, IfSome, if◌then◌else◌}
use Rattle.atomic_table.specs.Table.{Me}
use Rattle.atomic_table.specs.Seated.{TableId}
use Rattle.instance_core.specs.declared.font.BaseFont.{BaseFont}
use Rattle.instance_core.specs.Instances.{instance_width}
use Rattle.instance_table.specs.declared.answers.Claim.{Claim}
use Rattle.instance_table.specs.declared.answers.Claim.TheVariants.{Won, Lost}
use Rattle.instance_table.specs.declared.answers.Seen.{Seen}
use Rattle.instance_table.specs.declared.answers.Seen.TheVariants.{Empty, Building as BeingBuilt, Built}
use Rattle.instance_table.specs.declared.view.Building.{Building}
use Rattle.instance_table.specs.declared.view.Claimed.{Claimed}
use Rattle.instance_table.specs.declared.view.View.{View}
use Rattle.instance_table.specs.Places.{cell_count, cell_of_number}
use Rattle.instance_table.specs.Steps.{looked, tried, stored, published, has_read, drew}

pub record Standing : Type 0 where
  pub id : TableId
  pub bases : List BaseFont
  pub draws : ℕ

pub record Sitting : Type 0 where
  pub table : TableId
  pub view : View

abbrev pub IsSeatOf : Standing → Sitting → Type 0
IsSeatOf t s = (s.table ≡ t.id) × (s.view.bases ≡ t.bases) × (s.view.draws ≡ t.draws)

-- a seat keeps its number, its building cell and its claims as its view has them, with room for a claim of each cell
pub record IsSat (me : Me ℕ View) (number made : ℕ) (building : Option Building) (claims : List Claimed) (room : ℕ) : Type 0 where
  pub no_slot : me.1 ≡ []
  pub live : me.0.spent ≡ false
  pub number_same : number ≡ me.0.number
  pub made_same : me.0.number ≡ 0 → made ≡ me.0.made
  pub building_same : building ≡ me.0.building
  pub claims_same : claims ≡ me.0.claims
  pub room_for_all : cell_count me.0.bases ≤ room
  pub builds_cell : IfSome me.0.building (λ b. (b.cell < cell_count me.0.bases) × (b.stored ≤ 256))
  pub ready_cells : All (λ c. c < cell_count me.0.bases) me.0.ready

-- what the word of a state says
abbrev pub seen_by : ℕ → Seen
seen_by word = if nat_eq word 0 then Empty else (if nat_eq word 1 then Built else BeingBuilt)

abbrev pub claim_by : ℕ → Claim
claim_by word = if nat_eq word 0 then Won else Lost word

-- a look found a word of a state, which is no claim of the seat's own, and answered by it
pub record Finds (v : View) (cell : ℕ) (answer : Seen) (w : View) : Type 0 where
  pub word : ℕ
  pub view : w ≡ looked v cell word
  pub by_word : answer ≡ seen_by word
  pub another : word ≢ v.number + 2
  pub seen : Contains v.seen cell → answer ≢ Empty
  pub ready : Contains v.ready cell → answer ≡ Built

-- a claim found a word of a state and answered by it: it won where that was 0
pub record Wins (v : View) (cell : ℕ) (answer : Claim) (w : View) : Type 0 where
  pub word : ℕ
  pub view : w ≡ tried v cell word
  pub by_word : answer ≡ claim_by word
  pub another : word ≢ v.number + 2
  pub seen : Contains v.seen cell → answer ≢ Won
  pub ready : Contains v.ready cell → answer ≡ Lost 1

-- a width was read as the word of its place, 2^31 more than it
pub record ReadsWidth (v : View) (cell code : ℕ) (answer : ℤ) (w : View) : Type 0 where
  pub word : ℕ
  pub view : w ≡ has_read v cell code word
  pub by_word : pos word ≡ answer +ℤ pos 2147483648

-- a draw found the count, larger than each draw of the seat before, and answered it where it is below the draws
pub record DrawsOne (v : View) (answer : Option ℕ) (w : View) : Type 0 where
  pub word : ℕ
  pub view : w ≡ drew v word
  pub by_word : answer ≡ (if nat_lt word v.draws then Some word else None)
  pub rises : All (λ d. d.draw < word) v.drawn

-- a cell is being built, and this many of its widths are stored
abbrev pub HasStored : Option Building → ℕ → Type 0
HasStored None k = ⊥
HasStored (Some b) k = b.stored ≡ k

-- after one more width of the cell that is built
abbrev pub StoresOne : View → View → Type 0
StoresOne v w = (b : Building) × (v.building ≡ Some b) × (w ≡ stored v b)

-- after the cell that was built is published
abbrev pub PublishesIt : View → View → Type 0
PublishesIt v w = (b : Building) × (v.building ≡ Some b) × (w ≡ published v b.cell)

-- what a joined seat brings carries its number, which isn't 0 and is one of those made
pub record IsCarried (w v : View) : Type 0 where
  pub not_first : w.number ≢ 0
  pub is_made : w.number < v.made
  pub claims : All (λ e. e.number ≡ w.number) w.claims
  pub draws : All (λ d. d.number ≡ w.number) w.drawn
