use Rattle.std.proofs.Common.{◌≡◌, ◌+◌, take, map}
use Rattle.std.specs.List.{range_with_len, All}
use Rattle.hlist.specs.Bounds.{unbroken_count}
use Rattle.break_rule.specs.Kept.{IsWithin, IsHang, IsSmallBefore, before_of}
use Rattle.break_rule.proofs.scan.befores.Given as goal

abbrev pub invariant-loop-place : goal.invariant-loop-place
invariant-loop-place l = record {
  before : l.before ≡ before_of l.stock l.items l.place;
  within : IsWithin (unbroken_count (take l.place l.items)) l.before.sums;
  hang : IsHang l.before.behind.hang;
  made : l.made.items ≡ map (before_of l.stock l.items) (range_with_len 0 (l.place + 1));
  small : All IsSmallBefore l.made.items;
}
