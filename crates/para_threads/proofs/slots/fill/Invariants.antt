-- The slots with the entries to come are those with all entries.
use Rattle.std.proofs.Common.{◌≡◌, ◌<◌, length, vec_len}
use Rattle.std.specs.Prelude.{All}
use Rattle.std.specs.Vec.Iter.{into_iter_items, into_iter_len}
use Rattle.para_threads.specs.Slots.{filled}
use Rattle.para_threads.proofs.slots.fill.Given as goal

abbrev pub invariant-loop-one : goal.invariant-loop-one
invariant-loop-one l = record {
  within : All (λ one. one.place < vec_len l.slots) (into_iter_items l.one-iterator);
  rest : filled l.slots.items (into_iter_items l.one-iterator) ≡ filled l.fn.slots.items (into_iter_items l.initial.one-iterator);
  long : vec_len l.slots ≡ vec_len l.fn.slots;
  count : into_iter_len l.one-iterator ≡ length (into_iter_items l.one-iterator);
}
