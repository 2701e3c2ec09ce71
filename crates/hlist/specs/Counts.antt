-- How many items a list has, those in discretionaries counted (TeX: The Program, part 10).
use Rattle.std.specs.Prelude.{ℕ, ◌+◌, List, length, sum_by}
use Rattle.micro_num.specs.declared.disc.ThreeLists.{ThreeLists}
use Rattle.hlist.specs.declared.item.Item.{Item}
use Rattle.hlist.specs.declared.item.Item.TheVariants.{Disc}

-- how many entries three lists have
abbrev pub entry_count : {T : Type 0} → ThreeLists T → ℕ
entry_count lists = length lists.pre + length lists.post + length lists.whole

-- an item counts once, and each entry of a discretionary's lists besides
abbrev pub item_weight : Item → ℕ
item_weight (Disc lists) = 1 + entry_count lists
item_weight _ = 1

unfoldable pub item_count : List Item → ℕ
item_count items = sum_by item_weight items
