-- The pages so far and those to come are all pages.
use Rattle.std.proofs.Common.{◌≡◌, ◌+◌, length}
use Rattle.std.specs.Prelude.{All}
use Rattle.std.specs.Vec.Iter.{into_iter_items, into_iter_len}
use Rattle.para_threads.specs.Slots.{IsFull, pages_in}
use Rattle.para_threads.proofs.SlotPages.{behind}
use Rattle.para_threads.proofs.slots.in_order.Given as goal

abbrev pub invariant-loop-slot : goal.invariant-loop-slot
invariant-loop-slot l = record {
  all : behind l.pages (pages_in (length l.pages + 1) (into_iter_items l.slot-iterator)) ≡ pages_in 1 (into_iter_items l.initial.slot-iterator);
  left : length l.pages + length (into_iter_items l.slot-iterator) ≡ length (into_iter_items l.initial.slot-iterator);
  full : All IsFull (into_iter_items l.slot-iterator);
  count : into_iter_len l.slot-iterator ≡ length (into_iter_items l.slot-iterator);
}
