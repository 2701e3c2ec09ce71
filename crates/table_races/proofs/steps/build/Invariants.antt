use Rattle.std.proofs.Common.{◌≡◌}
use Rattle.instance_table.specs.Seats.{IsSeatOf, HasStored}
use Rattle.table_races.specs.Crews.{Stays}
use Rattle.table_races.proofs.steps.build.Given as goal

abbrev pub invariant-loop-code : goal.invariant-loop-code
invariant-loop-code l = record {
  own : IsSeatOf l.fn.table l.seat;
  next : HasStored l.seat.view.building l.code;
  stays : Stays l.fn.seat.view l.seat.view;
  draws : l.seat.view.ended ≡ l.fn.seat.view.ended;
}
