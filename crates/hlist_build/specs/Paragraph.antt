-- The list of a paragraph, or its first fault: too many parts, mixed fonts, what the parts give in their
-- order, too many items (TeX: The Program, parts 46 and 47, and section 816).
use Rattle.std.specs.Prelude.{ℕ, ◌-◌, ℤ, pos, Bool, true, false, nat_lt, if◌then◌else◌, List, [], ◌∷◌, ◌++◌, length, take, Option, Some, None, Result, Ok, Err, slice_get}
use Rattle.std.specs.Option.{option_map_or}
use Rattle.font_stock.specs.declared.font.Font.{Font}
use Rattle.micro_num.specs.declared.glue.Glue.{Glue as glue_type}
use Rattle.micro_num.specs.declared.paragraph.Par.{Par}
use Rattle.micro_num.specs.declared.tables.Tables.{Tables}
use Rattle.hlist.specs.Counts.{item_count}
use Rattle.hlist_build.specs.Counts.{part_count}
use Rattle.hlist_build.specs.Given.{behind, given_behind}
use Rattle.hlist_build.specs.Mixing.{mixed}
use Rattle.hlist_build.specs.declared.fault.ParFault.{ParFault}
use Rattle.hlist_build.specs.declared.fault.ParFault.TheVariants.{TooManyItems, MixedExpansion}
use Rattle.hlist.specs.declared.item.HList.{HList}
use Rattle.hlist.specs.declared.item.Item.{Item}
use Rattle.hlist.specs.declared.item.Item.TheVariants.{Glue, Penalty, Box}

-- an indent is a box of its width
abbrev pub indent_items : Bool → ℤ → List Item
indent_items true width = Box width ∷ []
indent_items false width = []

abbrev pub is_glue : Item → Bool
is_glue (Glue glue) = true
is_glue _ = false

-- a list without its last item where that is a glue
abbrev pub without_last_glue : List Item → List Item
without_last_glue items =
    if option_map_or is_glue (slice_get items (length items - 1)) false then take (length items - 1) items else items

-- a paragraph ends in a place where no line ends, and parfillskip, in place of a last glue
unfoldable pub ended : glue_type → List Item → List Item
ended parfillskip items = without_last_glue items ++ Penalty (pos 10000) ∷ Glue parfillskip ∷ []

abbrev pub most_items : ℕ
most_items = 16384

-- a list with few enough items
unfoldable pub counted : List Item → Result HList ParFault
counted items = if nat_lt most_items (item_count items) then Err TooManyItems else Ok (record { items = items })

abbrev pub finished : glue_type → Result (List Item) ParFault → Result HList ParFault
finished parfillskip (Ok items) = counted (ended parfillskip items)
finished parfillskip (Err fault) = Err fault

abbrev pub by_mixed : Option ℕ → Result HList ParFault → Result HList ParFault
by_mixed None list = list
by_mixed (Some font) list = Err (MixedExpansion font)

-- the indent and what the parts give behind it
unfoldable pub set_items : Par → Tables → List Font → Result (List Item) ParFault
set_items par tables stock =
    behind (indent_items par.indent par.params.parindent) (given_behind par.params tables stock [] par.parts)

-- the list of a paragraph, or its first fault, where memory suffices
unfoldable pub list_of : Par → Tables → List Font → Result HList ParFault
list_of par tables stock =
    if nat_lt most_items (part_count par.parts) then Err TooManyItems
    else by_mixed (mixed par.params stock par.parts) (finished par.params.parfillskip (set_items par tables stock))
