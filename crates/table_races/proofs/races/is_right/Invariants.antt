use Rattle.std.proofs.Common.{◌≡◌, Contains}
use Rattle.table_races.specs.Crews.{IsIdle, Stays}
use Rattle.table_races.proofs.races.is_right.Given as goal

abbrev pub invariant-loop-code : goal.invariant-loop-code
invariant-loop-code l = record {
  idle : IsIdle l.fn.table l.seat;
  stays : Stays l.fn.seat.view l.seat.view;
  ready : Contains l.seat.view.ready l.fn.cell;
}
