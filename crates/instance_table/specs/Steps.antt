-- The eight kinds of step, each with what it does to the stepping seat's view.
use Rattle.std.specs.Prelude.{◌≡◌, ◌≢◌, ℕ, ◌+◌, ◌<◌, false, nat_eq, nat_le, List, [], ◌∷◌, ◌++◌, replicate, slice_index, slice_set, Some, None, Contains, if◌then◌else◌}
use mathlib.Core.Option.{some}
use lib.ListN.{get_elem?}
use Rattle.instance_core.specs.declared.font.BaseFont.{BaseFont}
use Rattle.instance_table.specs.declared.view.Building.{Building}
use Rattle.instance_table.specs.declared.view.LastStep.TheVariants.{NoStep, Looked, Tried, Read}
use Rattle.instance_table.specs.declared.view.View.{View}
use Rattle.instance_table.specs.Places.{cell_count, word_count, state_place, width_place, state, stored_width, IsStored}
use Rattle.instance_table.specs.Rule.{spent_view}

-- what a new seat knows
abbrev pub new_view : List BaseFont → ℕ → ℕ → View
new_view bases draws number = record {
  number = number;
  bases = bases;
  draws = draws;
  claims = [];
  drawn = [];
  building = None;
  seen = [];
  ready = [];
  ended = false;
  last = NoStep;
  taken = 0;
  made = 0;
  joined = [];
  spent = false;
}

abbrev pub first_view : List BaseFont → ℕ → View
first_view bases draws = record (new_view bases draws 0) { made = 1 }

-- the cells found not empty, and those found built, with one more where the word says so
abbrev pub with_seen : ℕ → ℕ → List ℕ → List ℕ
with_seen cell word cells = if nat_eq word 0 then cells else cells ++ cell ∷ []

abbrev pub with_ready : ℕ → ℕ → List ℕ → List ℕ
with_ready cell word cells = if nat_eq word 1 then cells ++ cell ∷ [] else cells

-- after a look at the state of a cell, which found this word
abbrev pub looked : View → ℕ → ℕ → View
looked v cell word = record v {
  seen = with_seen cell word v.seen;
  ready = with_ready cell word v.ready;
  last = Looked cell word;
  taken = v.taken + 1;
}

-- after a claim that found another word than 0
abbrev pub lost : View → ℕ → ℕ → View
lost v cell word = record v {
  seen = with_seen cell word v.seen;
  ready = with_ready cell word v.ready;
  last = Tried cell word;
  taken = v.taken + 1;
}

-- after a claim that found 0
abbrev pub won : View → ℕ → View
won v cell = record v {
  claims = v.claims ++ (record { cell = cell; number = v.number }) ∷ [];
  building = Some (record { cell = cell; stored = 0 });
  seen = v.seen ++ cell ∷ [];
  last = Tried cell 0;
  taken = v.taken + 1;
}

abbrev pub tried : View → ℕ → ℕ → View
tried v cell word = if nat_eq word 0 then won v cell else lost v cell word

-- after one more width of the cell that it builds
abbrev pub stored : View → Building → View
stored v b = record v { building = Some (record { cell = b.cell; stored = b.stored + 1 }) }

abbrev pub published : View → ℕ → View
published v cell = record v { building = None; ready = v.ready ++ cell ∷ [] }

-- after a load of a width
abbrev pub has_read : View → ℕ → ℕ → ℕ → View
has_read v cell code word = record v { last = Read cell code word; taken = v.taken + 1 }

abbrev pub drew : View → ℕ → View
drew v word = record v {
  drawn = v.drawn ++ (record { draw = word; number = v.number }) ∷ [];
  ended = nat_le v.draws word;
}

abbrev pub after_split : View → View
after_split v = record v { made = v.made + 1 }

abbrev pub split_off : View → View
split_off v = new_view v.bases v.draws v.made

-- a seat with what another knew
abbrev pub joined_with : View → View → View
joined_with v w = record v {
  claims = v.claims ++ w.claims;
  drawn = v.drawn ++ w.drawn;
  seen = v.seen ++ w.seen;
  ready = v.ready ++ w.ready;
  joined = v.joined ++ w.number ∷ [];
}

pub record Table : Type 0 where
  pub words : List ℕ
  pub views : List View

abbrev pub start : List BaseFont → ℕ → Table
start bases draws = record { words = replicate (word_count bases) 0; views = first_view bases draws ∷ [] }

-- the seat is live and knows this
abbrev pub IsSeat : List View → ℕ → View → Type 0
IsSeat views seat v = (get_elem? views seat ≡ some v) × (v.spent ≡ false)

-- a step that sets a word and the view of the stepping seat
abbrev pub after : Table → ℕ → ℕ → ℕ → View → Table
after t place word seat v = record { words = slice_set t.words place word; views = slice_set t.views seat v }

abbrev pub knowing : Table → ℕ → View → Table
knowing t seat v = record { words = t.words; views = slice_set t.views seat v }

pub data Step (bases : List BaseFont) : Table → Table → Type 0 where
  looks : {t : Table} (seat : ℕ) (v : View) (cell : ℕ) → IsSeat t.views seat v → v.building ≡ None → cell < cell_count bases
      → Step bases t (knowing t seat (looked v cell (state t.words cell)))
  wins : {t : Table} (seat : ℕ) (v : View) (cell : ℕ) → IsSeat t.views seat v → v.building ≡ None → cell < cell_count bases
      → state t.words cell ≡ 0
      → Step bases t (after t (state_place cell) (v.number + 2) seat (won v cell))
  loses : {t : Table} (seat : ℕ) (v : View) (cell : ℕ) → IsSeat t.views seat v → v.building ≡ None → cell < cell_count bases
      → state t.words cell ≢ 0
      → Step bases t (knowing t seat (lost v cell (state t.words cell)))
  stores : {t : Table} (seat : ℕ) (v : View) (b : Building) (word : ℕ) → IsSeat t.views seat v → v.building ≡ Some b
      → b.stored < 256 → IsStored bases b.cell b.stored word
      → Step bases t (after t (width_place b.cell b.stored) word seat (stored v b))
  publishes : {t : Table} (seat : ℕ) (v : View) (b : Building) → IsSeat t.views seat v → v.building ≡ Some b
      → b.stored ≡ 256
      → Step bases t (after t (state_place b.cell) 1 seat (published v b.cell))
  reads : {t : Table} (seat : ℕ) (v : View) (cell code : ℕ) → IsSeat t.views seat v → Contains v.ready cell → code < 256
      → Step bases t (knowing t seat (has_read v cell code (stored_width t.words cell code)))
  draws : {t : Table} (seat : ℕ) (v : View) → IsSeat t.views seat v → v.ended ≡ false
      → Step bases t (after t 0 (slice_index t.words 0 + 1) seat (drew v (slice_index t.words 0)))
  splits : {t : Table} (seat : ℕ) (v : View) → IsSeat t.views seat v → v.number ≡ 0 → v.made < 4294967295
      → Step bases t (record {
        words = t.words;
        views = slice_set t.views seat (after_split v) ++ split_off v ∷ [];
      })
  joins : {t : Table} (seat other : ℕ) (v w : View) → IsSeat t.views seat v → IsSeat t.views other w → seat ≢ other
      → v.number ≡ 0 → v.building ≡ None → w.building ≡ None
      → Step bases t (record {
        words = t.words;
        views = slice_set (slice_set t.views seat (joined_with v w)) other spent_view;
      })

-- any steps of any seats, one after another
pub data Steps (bases : List BaseFont) : Table → Table → Type 0 where
  none : {t : Table} → Steps bases t t
  more : {s t u : Table} → Steps bases s t → Step bases t u → Steps bases s u
