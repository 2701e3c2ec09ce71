-- Lists of items that count once are in bounds and over their stock.
--     simple_in_bounds, simple_over
use Rattle.std.proofs.Common.{◌*◌, ◌≤◌, arith, List, length}
use Rattle.std.specs.Prelude.{All, sum_by}
use Rattle.std.proofs.lemmas.List.Elements.{All-weaker}
use Rattle.std.proofs.lemmas.List.Sums.{sum_by-le}
use Rattle.font_stock.specs.declared.font.Font.{Font}
use Rattle.hlist.specs.Bounds.{unbroken_weight, unbroken_count, BreaksShort, IsInBounds}
use Rattle.hlist.specs.declared.item.HList.{HList}
use Rattle.hlist.specs.declared.item.Item.{Item}
use Rattle.break_rule.specs.Over.{IsItemOver, IsOver}
use Rattle.break_tests.specs.Simple.{IsSimple, AreSimple}

few : (items : List Item) → All (λ (x : Item). unbroken_weight x ≤ 1) items → length items ≤ 65536
    → unbroken_count items ≤ 65536
unfolding unbroken_count
few items once short =
    let most : sum_by unbroken_weight items ≤ length items * 1 =
    sum_by-le unbroken_weight 1 items once in
    omega arith

pub simple_in_bounds : (stock : List Font) (list : HList) → AreSimple stock list.items
    → IsInBounds list
simple_in_bounds stock list simple = record {
  few = few list.items
      (All-weaker (IsSimple stock) (λ (x : Item). unbroken_weight x ≤ 1)
      (λ (x : Item) (s : IsSimple stock x). s.once) list.items simple.each) simple.few;
  short = All-weaker (IsSimple stock) BreaksShort
      (λ (x : Item) (s : IsSimple stock x). s.short) list.items simple.each;
}

pub simple_over : (stock : List Font) (items : List Item) → AreSimple stock items → IsOver stock items
simple_over stock items simple =
    All-weaker (IsSimple stock) (IsItemOver stock) (λ (x : Item) (s : IsSimple stock x). s.over)
    items simple.each
