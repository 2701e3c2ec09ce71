-- Lists without discretionaries, over a stock.
use Rattle.std.specs.Prelude.{◌≤◌, List, length, All}
use Rattle.font_stock.specs.declared.font.Font.{Font}
use Rattle.hlist.specs.Bounds.{unbroken_weight, BreaksShort}
use Rattle.hlist.specs.declared.item.Item.{Item}
use Rattle.break_rule.specs.Over.{IsItemOver}

-- an item that counts once
pub record IsSimple (stock : List Font) (item : Item) : Type 0 where
  pub once : unbroken_weight item ≤ 1
  pub short : BreaksShort item
  pub over : IsItemOver stock item

-- a short list of them
pub record AreSimple (stock : List Font) (items : List Item) : Type 0 where
  pub each : All (IsSimple stock) items
  pub few : length items ≤ 65536
