use Rattle.std.proofs.Common.{◌≡◌}
use Rattle.table_races.specs.Crews.{IsIdle, Stays}
use Rattle.table_races.proofs.races.right_cells.Given as goal

abbrev pub invariant-loop-cell : goal.invariant-loop-cell
invariant-loop-cell l = record {
  idle : IsIdle l.fn.table l.seat;
  stays : Stays l.fn.seat.view l.seat.view;
}
