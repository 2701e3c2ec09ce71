-- A list of a stock is over it.
--     list_over
use Rattle.std.proofs.Common.{ℕ, ◌<◌, List, length}
use Rattle.std.specs.Prelude.{All, Option, Some, None}
use Rattle.std.proofs.lemmas.List.Elements.{All-weaker}
use Rattle.std.proofs.lemmas.Option.{slice_get_within}
use Rattle.font_stock.specs.declared.font.Font.{Font}
use Rattle.hlist.specs.Bounds.{OfFont, IsLeftOf, IsSubOf, IsItemOf, IsListOf}
use Rattle.hlist.specs.declared.item.HList.{HList}
use Rattle.hlist.specs.declared.item.KernLeft.{KernLeft}
use Rattle.hlist.specs.declared.item.Item.{Item}
use Rattle.hlist.specs.declared.item.Item.TheVariants.{Char, Lig, FontKern, Kern, Glue, Penalty, Disc, Box}
use Rattle.hlist.specs.declared.item.Sub.{Sub}
use Rattle.hlist.specs.declared.item.Sub.TheVariants.{Char as sub_char, Lig as sub_lig, FontKern as sub_kern}
use Rattle.break_rule.specs.Over.{IsKernOver, IsSubOver, IsItemOver, IsOver}

below : (stock : List Font) (number : ℕ) (P : Font → Type 0) → OfFont stock number P → number < length stock
below stock number P of = slice_get_within stock number of.font of.is

kern-over : (stock : List Font) (left : Option KernLeft) → IsLeftOf stock left → IsKernOver stock left
kern-over stock None of = tt
kern-over stock (Some left) of = record { font = of.font; is = of.is; holds = of.holds.kern }

sub-over : (stock : List Font) (sub : Sub) → IsSubOf stock sub → IsSubOver stock sub
sub-over stock (sub_char font code) of = below stock font _ of
sub-over stock (sub_lig font code covers) of = below stock font _ of
sub-over stock (sub_kern width left) of = kern-over stock left of

subs-over : (stock : List Font) (subs : List Sub) → All (IsSubOf stock) subs → All (IsSubOver stock) subs
subs-over stock subs all = All-weaker (IsSubOf stock) (IsSubOver stock) (λ (s : Sub). sub-over stock s) subs all

item-over : (stock : List Font) (item : Item) → IsItemOf stock item → IsItemOver stock item
item-over stock (Char font code) of = below stock font _ of
item-over stock (Lig font code covers) of = below stock font _ of
item-over stock (FontKern width left) of = kern-over stock left of
item-over stock (Disc lists) of = record {
  pre = subs-over stock lists.pre of.pre;
  post = subs-over stock lists.post of.post;
  whole = subs-over stock lists.whole of.whole;
}
item-over stock (Kern width) of = tt
item-over stock (Glue glue) of = tt
item-over stock (Penalty value) of = tt
item-over stock (Box width) of = tt

pub list_over : (stock : List Font) (list : HList) → IsListOf stock list → IsOver stock list.items
list_over stock list of = All-weaker (IsItemOf stock) (IsItemOver stock) (λ (x : Item). item-over stock x) list.items of
