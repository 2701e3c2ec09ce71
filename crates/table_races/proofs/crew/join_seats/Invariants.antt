use Rattle.std.proofs.Common.{◌≡◌, ◌++◌, All, map, length}
use Rattle.std.specs.Vec.Iter.{into_iter_items, into_iter_len}
use Rattle.table_races.specs.Crews.{IsIdle, numbers}
use Rattle.table_races.proofs.crew.join_seats.Given as goal

abbrev pub invariant-loop-one : goal.invariant-loop-one
invariant-loop-one l = record {
  idle : IsIdle l.fn.table l.first;
  number : l.first.view.number ≡ 0;
  made : l.first.view.made ≡ l.fn.first.view.made;
  others : All (λ r. IsIdle l.fn.table r.seat) (into_iter_items l.one-iterator);
  rest : l.first.view.joined ++ numbers (map (λ r. r.seat) (into_iter_items l.one-iterator))
      ≡ l.fn.first.view.joined ++ numbers (map (λ r. r.seat) (into_iter_items l.initial.one-iterator));
  count : into_iter_len l.one-iterator ≡ length (into_iter_items l.one-iterator);
}
