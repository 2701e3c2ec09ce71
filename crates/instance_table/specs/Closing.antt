-- What closing a table tells: who built its instances, and what its words were at the end.
--     IsAlone             each other seat that was made was joined to this one
--     claims_on           the claims of a cell
--     claims_below        the claims of the cells below a number, in cell order
--     owners_of           a list of claims as owners of the cells
--     builder_in          the number of the last claim of a cell
--     IsNoted, named_below    what a note of the number beside each cell keeps
--     AreDrawn, Ends      the draws, and the last words of the table
--     Closes              what the receipt of a table says
use Rattle.std.specs.Prelude.{◌≡◌, ℕ, zero, suc, ◌<◌, ◌≤◌, nat_eq, nat_lt, List, [], ◌∷◌, ◌++◌, map, filter, length, slice_index_or, Option, Some, None, All, Contains, if◌then◌else◌}
use mathlib.Core.Option.{some}
use lib.ListN.{get_elem?}
use Rattle.instance_core.specs.declared.font.BaseFont.{BaseFont}
use Rattle.instance_core.specs.declared.page.Owner.{Owner}
use Rattle.instance_core.specs.Cells.{in_cell_order}
use Rattle.instance_table.specs.declared.closing.Closed.{Closed}
use Rattle.instance_table.specs.declared.view.Claimed.{Claimed}
use Rattle.instance_table.specs.declared.view.Drawn.{Drawn}
use Rattle.instance_table.specs.declared.view.View.{View}
use Rattle.instance_table.specs.Places.{cell_count, cell_of_number, state}
use Rattle.instance_table.specs.Rule.{Rule, draws_of}
use Rattle.instance_table.specs.Seats.{Standing}
use Rattle.instance_table.specs.Totals.{one_if}

abbrev pub IsAlone : View → Type 0
IsAlone v = (n : ℕ) → 0 < n → n < v.made → Contains v.joined n

abbrev pub claims_on : List Claimed → ℕ → List Claimed
claims_on claims cell = filter (λ e. nat_eq e.cell cell) claims

abbrev pub claims_below : List Claimed → ℕ → List Claimed
claims_below claims zero = []
claims_below claims (suc cell) = claims_below claims cell ++ claims_on claims cell

abbrev pub owner_of : List BaseFont → Claimed → Owner
owner_of bases e = record { cell = cell_of_number bases e.cell; worker = e.number }

abbrev pub owners_of : List BaseFont → List Claimed → List Owner
owners_of bases claims = map (owner_of bases) claims

-- the later of two, where there is one
abbrev pub or_earlier : Option ℕ → Option ℕ → Option ℕ
or_earlier (Some n) earlier = Some n
or_earlier None earlier = earlier

abbrev pub builder_in : List Claimed → ℕ → Option ℕ
builder_in [] cell = None
builder_in (e ∷ es) cell = or_earlier (builder_in es cell) (if nat_eq e.cell cell then Some e.number else None)

-- beside each cell stands the number of its last claim
abbrev pub IsNoted : List (Option ℕ) → List Claimed → Type 0
IsNoted builders claims = (cell : ℕ) → cell < length builders → slice_index_or builders cell None ≡ builder_in claims cell

abbrev pub named : ℕ → Option ℕ → List Claimed
named cell None = []
named cell (Some n) = record { cell = cell; number = n } ∷ []

-- the claims that stand in a note, of the cells below a number
abbrev pub named_below : List (Option ℕ) → ℕ → List Claimed
named_below builders zero = []
named_below builders (suc cell) = named_below builders cell ++ named cell (slice_index_or builders cell None)

-- each number below a count was drawn once, and no other was; where one is past the last draw, that is each below it
pub record AreDrawn (v : View) : Type 0 where
  pub count : ℕ
  pub once : (x : ℕ) → draws_of x v ≡ one_if (nat_lt x count)
  pub all : (d : Drawn) → Contains v.drawn d → v.draws ≤ d.draw → (x : ℕ) → x < v.draws → draws_of x v ≡ 1

-- last words of the table, which meet its rule: each cell that the seat has seen is built, and every other is empty
pub record Ends (t : Standing) (v : View) : Type 0 where
  pub words : List ℕ
  pub views : List View
  pub seat : ℕ
  pub rule : Rule t.bases t.draws words views
  pub here : get_elem? views seat ≡ some v
  pub built : (cell : ℕ) → Contains v.seen cell → state words cell ≡ 1
  pub empty : (cell : ℕ) → cell < cell_count t.bases → (Contains v.seen cell → ⊥) → state words cell ≡ 0

-- the owners are the seat's claims in cell order, and their cells those that it has seen, each once
pub record Closes (t : Standing) (v : View) (closed : Closed) : Type 0 where
  pub owners : closed.owners ≡ owners_of t.bases (claims_below v.claims (cell_count t.bases))
  pub cells : map (λ o. o.cell) closed.owners ≡ in_cell_order t.bases (map (cell_of_number t.bases) v.seen)
  pub workers : All (λ o. o.worker < closed.seats) closed.owners
  pub bases : closed.bases ≡ t.bases
  pub seats : closed.seats ≡ v.made
  pub drawn : AreDrawn v
  pub last : Ends t v
