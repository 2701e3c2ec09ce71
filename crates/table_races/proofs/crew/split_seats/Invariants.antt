use Rattle.std.proofs.Common.{◌≡◌, ◌+◌, [], All}
use Rattle.table_races.specs.Crews.{IsIdle, IsFresh, numbers, numbers_upto}
use Rattle.table_races.proofs.crew.split_seats.Given as goal

abbrev pub invariant-loop : goal.invariant-loop
invariant-loop l = record {
  idle : IsIdle l.fn.table l.first;
  number : l.first.view.number ≡ 0;
  made : l.first.view.made ≡ l.counter + 1;
  joined : l.first.view.joined ≡ [];
  seats : All (IsFresh l.fn.table) l.seats.items;
  numbers : numbers l.seats.items ≡ numbers_upto l.counter;
}
