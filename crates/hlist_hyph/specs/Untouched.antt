-- What hyphenation leaves as it is: it puts discretionaries in the place of what they stand for without a break.
use Rattle.std.specs.Prelude.{◌≡◌, ℕ, Bool, true, false, List, [], ◌∷◌, ◌++◌, map}
use Rattle.std.specs.List.{filter}
use Rattle.font_stock.specs.declared.font.Font.{Font}
use Rattle.micro_num.specs.declared.tables.Tables.{Tables}
use Rattle.hlist_hyph.specs.Hyphenated.{Places, hyphenated_items}
use Rattle.micro_num.specs.declared.disc.ThreeLists.{ThreeLists}
use Rattle.hlist.specs.declared.item.Item.{Item}
use Rattle.hlist.specs.declared.item.Item.TheVariants.{Char, Lig, FontKern, Kern, Glue, Penalty, Disc, Box}
use Rattle.hlist.specs.declared.item.Sub.{Sub}
use Rattle.hlist.specs.declared.item.Sub.TheVariants.{Char as sub_char, Lig as sub_lig, FontKern as sub_kern}

-- the hyphenated form of items is these
abbrev pub Stays : Tables → List Font → Places → List Item → Type 0
Stays tables stock places items = hyphenated_items tables stock places items ≡ items

-- an entry of a discretionary's list as an item
abbrev pub item_of : Sub → Item
item_of (sub_char font code) = Char font code
item_of (sub_lig font code covers) = Lig font code covers
item_of (sub_kern width left) = FontKern width left

-- the second list is the first with new discretionaries: where each of these is taken out and its `whole` list put
-- there, the first list is back
pub data HasNewDiscs : List Item → List Item → Type 0 where
  nothing : HasNewDiscs [] []
  same : (item : Item) (before after : List Item) → HasNewDiscs before after → HasNewDiscs (item ∷ before) (item ∷ after)
  put : (lists : ThreeLists Sub) (before after : List Item) → HasNewDiscs before after
      → HasNewDiscs (map item_of lists.whole ++ before) (Disc lists ∷ after)

-- glues, penalties, kerns of the author's and boxes
abbrev pub is_fixed : Item → Bool
is_fixed (Glue glue) = true
is_fixed (Penalty value) = true
is_fixed (Kern width) = true
is_fixed (Box width) = true
is_fixed _ = false

abbrev pub fixed_items : List Item → List Item
fixed_items items = filter is_fixed items
