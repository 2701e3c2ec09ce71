use Rattle.std.proofs.Common.{◌≡◌}
use Rattle.table_races.specs.Crews.{IsFresh, Stays}
use Rattle.table_races.proofs.crew.draw_all.Given as goal

abbrev pub invariant-loop : goal.invariant-loop
invariant-loop l = record {
  fresh : IsFresh l.fn.table l.seat;
  stays : Stays l.fn.seat.view l.seat.view;
}
