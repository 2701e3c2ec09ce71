-- Small lists are in bounds: what is counted without breaks is at most what is counted in all, and each list of
-- a discretionary is counted.
use Rattle.std.proofs.Common.{◌≤◌, get_or, arith}
use Rattle.std.proofs.lemmas.List.Sums.{sum_by-le-sum_by, get_or-le-sum_by}
use Rattle.hlist.specs.Bounds.{IsSmall, IsInBounds, BreaksShort, unbroken_weight, unbroken_count}
use Rattle.hlist.specs.Counts.{item_weight, item_count}
use Rattle.hlist.specs.declared.item.HList.{HList}
use Rattle.hlist.specs.declared.item.Item.{Item}
use Rattle.hlist.specs.declared.item.Item.TheVariants.{Char, Lig, FontKern, Kern, Glue, Penalty, Disc, Box}

unbroken-le : (item : Item) → unbroken_weight item ≤ item_weight item
unbroken-le (Char font code) = omega arith
unbroken-le (Lig font code covers) = omega arith
unbroken-le (FontKern width left) = omega arith
unbroken-le (Kern width) = omega arith
unbroken-le (Glue glue) = omega arith
unbroken-le (Penalty value) = omega arith
unbroken-le (Disc lists) = omega arith
unbroken-le (Box width) = omega arith

short-of : (item : Item) → item_weight item ≤ 16384 → BreaksShort item
short-of (Char font code) h = tt
short-of (Lig font code covers) h = tt
short-of (FontKern width left) h = tt
short-of (Kern width) h = tt
short-of (Glue glue) h = tt
short-of (Penalty value) h = tt
short-of (Disc lists) h = (omega arith, omega arith)
short-of (Box width) h = tt

pub small-in_bounds : (list : HList) → IsSmall list → IsInBounds list
unfolding unbroken_count item_count
small-in_bounds list small = record {
  few = omega (arith, small, sum_by-le-sum_by unbroken_weight item_weight list.items unbroken-le);
  short = λ k d lt. short-of (get_or list.items k d)
      (omega (arith, get_or-le-sum_by item_weight list.items k d lt, small));
}
