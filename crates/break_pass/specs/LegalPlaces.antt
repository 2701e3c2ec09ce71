-- The legal places of a list by their numbers, as a pass counts them: 0 is the start, and k is the k-th legal place.
--     kind_of                what a break at an item is, as far as the demerits of hyphens see it
--     places_of              the legal places, with their penalties and kinds
--     place_of               the place of a number
--     from_of, kind_at       where the line after it begins, and the kind of the break there
use Rattle.std.specs.Prelude.{ℕ, zero, suc, ◌-◌, pos, List, map, slice_get, slice_index_or, Option, Some, None}
use Rattle.micro_num.specs.declared.params.Params.{Params}
use Rattle.hlist.specs.declared.item.Item.{Item}
use Rattle.hlist.specs.declared.item.Item.TheVariants.{Disc}
use Rattle.break_rule.specs.declared.line.From.{From}
use Rattle.break_rule.specs.declared.line.From.TheVariants.{Start, After}
use Rattle.break_rule.specs.Fits.{Rule}
use Rattle.break_rule.specs.Places.{legal_of, penalty_of}
use Rattle.break_pass.specs.declared.place.BreakKind.{BreakKind}
use Rattle.break_pass.specs.declared.place.BreakKind.TheVariants.{Discretionary, End, Other}
use Rattle.break_pass.specs.declared.place.LegalPlace.{LegalPlace}

abbrev pub kind_of : Option Item → BreakKind
kind_of None = End
kind_of (Some (Disc lists)) = Discretionary
kind_of (Some _) = Other

abbrev pub place_at : Params → List Item → ℕ → LegalPlace
place_at params items at = record { at = at; penalty = penalty_of params items at; kind = kind_of (slice_get items at) }

unfoldable pub places_of : Params → List Item → List LegalPlace
places_of params items = map (place_at params items) (legal_of params items)

-- what is read where there is no such place
abbrev pub no_place : LegalPlace
no_place = record { at = 0; penalty = pos 0; kind = Other }

abbrev pub place_of : Rule → ℕ → LegalPlace
place_of rule number = slice_index_or (places_of rule.params rule.items) (number - 1) no_place

abbrev pub from_of : Rule → ℕ → From
from_of rule zero = Start
from_of rule (suc place) = After (place_of rule (suc place)).at

-- the start doesn't count as a discretionary
abbrev pub kind_at : Rule → ℕ → BreakKind
kind_at rule zero = Other
kind_at rule (suc place) = (place_of rule (suc place)).kind
