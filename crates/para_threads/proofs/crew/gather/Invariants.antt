-- What the seats joined so far have done is gathered, and their numbers with those to come are all.
use Rattle.std.proofs.Common.{◌≡◌, ◌++◌, ◌⊎◌, length, vec_len}
use Rattle.std.specs.Prelude.{All}
use Rattle.std.specs.Vec.Iter.{into_iter_items, into_iter_len}
use Rattle.table_widths.specs.Widths.{IsIdle}
use Rattle.para_threads.specs.Gathering.{Gathered, HasPast}
use Rattle.para_threads.specs.Crews.{IsWork, numbers, seats_of}
use Rattle.para_threads.proofs.crew.gather.Given as goal

abbrev pub invariant-loop-one : goal.invariant-loop-one
invariant-loop-one l = record {
  idle : IsIdle l.fn.table l.first;
  number : l.first.view.number ≡ 0;
  made : l.first.view.made ≡ l.fn.first.view.made;
  works : All (IsWork l.fn.table l.fn._job l.fn._stock) (into_iter_items l.one-iterator);
  rest : l.first.view.joined ++ numbers (seats_of (into_iter_items l.one-iterator))
      ≡ l.fn.first.view.joined ++ numbers (seats_of (into_iter_items l.initial.one-iterator));
  gathered : Gathered l.fn._job l.fn._stock l.first.view l.slots.items;
  slots : vec_len l.slots ≡ length l.fn._job.pars;
  past : (into_iter_items l.one-iterator ≡ into_iter_items l.initial.one-iterator) ⊎ HasPast (length l.fn._job.pars) l.first.view;
  count : into_iter_len l.one-iterator ≡ length (into_iter_items l.one-iterator);
}
