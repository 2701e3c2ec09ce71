-- Where a line may end, with which penalty, and where the next one begins (TeX: The Program, sections 148, 837 and 866 to 869).
--     is_place, legal         the places at which a line may end, as numbers of items; the end is their count
--     penalty_of              the penalty of ending a line at a place
--     begin_of                the item with which the line after a break begins
use Rattle.std.specs.Prelude.{ℕ, zero, suc, ◌+◌, ℤ, pos, negsuc, int_lt, Bool, true, false, List, [], ◌∷◌, length, drop, take_while, filter, slice_get, Option, Some, None, if◌then◌else◌}
use Rattle.std.specs.Int.{int_max}
use Rattle.std.specs.List.{range_with_len}
use Rattle.micro_num.specs.declared.disc.ThreeLists.{ThreeLists}
use Rattle.micro_num.specs.declared.params.Params.{Params}
use Rattle.hlist.specs.declared.item.Item.{Item}
use Rattle.hlist.specs.declared.item.Item.TheVariants.{Char, Lig, FontKern, Kern, Glue, Penalty, Disc, Box}
use Rattle.hlist.specs.declared.item.Sub.{Sub}
use Rattle.break_rule.specs.declared.line.From.{From}
use Rattle.break_rule.specs.declared.line.From.TheVariants.{Start, After}

-- the penalty that forces a break, and the one that forbids it
abbrev pub eject : ℤ
eject = negsuc 9999

abbrev pub infinite : ℤ
infinite = pos 10000

abbrev pub is_nil : {T : Type 0} → List T → Bool
is_nil [] = true
is_nil (x ∷ xs) = false

-- the penalty of a break at a discretionary: another where nothing stands before the break
abbrev pub disc_penalty : Params → ThreeLists Sub → ℤ
disc_penalty params lists = if is_nil lists.pre then params.exhyphenpenalty else params.hyphenpenalty

abbrev pub penalty_at_item : Params → Option Item → ℤ
penalty_at_item params None = eject
penalty_at_item params (Some (Penalty value)) = int_max value eject
penalty_at_item params (Some (Disc lists)) = int_max (disc_penalty params lists) eject
penalty_at_item params (Some _) = pos 0

-- the end forces a break; no penalty is below the one that does
unfoldable pub penalty_of : Params → List Item → ℕ → ℤ
penalty_of params items place = penalty_at_item params (slice_get items place)

-- a line may end at a glue right behind such an item
abbrev pub allows_glue : Option Item → Bool
allows_glue (Some (Char font code)) = true
allows_glue (Some (Lig font code covers)) = true
allows_glue (Some (FontKern width left)) = true
allows_glue (Some (Disc lists)) = true
allows_glue (Some (Box width)) = true
allows_glue _ = false

abbrev pub is_glue : Option Item → Bool
is_glue (Some (Glue glue)) = true
is_glue _ = false

-- the item before a place
abbrev pub item_before : List Item → ℕ → Option Item
item_before items zero = None
item_before items (suc place) = slice_get items place

-- whether a line may end at an item, by the one before it and the one behind it; None is past an end of the list
abbrev pub ends_line : Params → Option Item → Option Item → Option Item → Bool
ends_line params before None after = true
ends_line params before (Some (Glue glue)) after = allows_glue before
ends_line params before (Some (Kern width)) after = is_glue after
ends_line params before (Some (Penalty value)) after = int_lt value infinite
ends_line params before (Some (Disc lists)) after = int_lt (disc_penalty params lists) infinite
ends_line params before (Some _) after = false

unfoldable pub is_place : Params → List Item → ℕ → Bool
is_place params items place = ends_line params (item_before items place) (slice_get items place) (slice_get items (place + 1))

-- the legal places, ascending
unfoldable pub legal_of : Params → List Item → List ℕ
legal_of params items = filter (is_place params items) (range_with_len 0 (length items + 1))

-- what vanishes behind a break
abbrev pub is_discardable : Item → Bool
is_discardable (Glue glue) = true
is_discardable (Penalty value) = true
is_discardable (Kern width) = true
is_discardable _ = false

-- the first item from a place on that doesn't vanish behind a break
unfoldable pub kept_from : List Item → ℕ → ℕ
kept_from items place = place + length (take_while is_discardable (drop place items))

abbrev pub begin_behind : List Item → ℕ → Option Item → ℕ
begin_behind items place (Some (Disc lists)) = if is_nil lists.post then kept_from items (place + 1) else place + 1
begin_behind items place _ = kept_from items place

-- Behind a discretionary nothing vanishes where it has something to put there. It may be past the place at which the
-- line ends: where all between vanishes.
unfoldable pub begin_of : List Item → From → ℕ
begin_of items Start = 0
begin_of items (After at) = begin_behind items at (slice_get items at)
