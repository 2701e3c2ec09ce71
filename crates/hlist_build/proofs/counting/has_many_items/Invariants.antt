use Rattle.std.proofs.Common.{◌≡◌, ◌+◌, drop}
use Rattle.hlist.specs.Counts.{item_count}
use Rattle.hlist_build.proofs.counting.has_many_items.Given as goal

abbrev pub invariant-loop-item : goal.invariant-loop-item
invariant-loop-item l = l.room + item_count l.items ≡ 16384 + item_count (drop l.item-index l.items)
