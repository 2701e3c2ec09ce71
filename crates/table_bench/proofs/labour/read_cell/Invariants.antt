use Rattle.std.proofs.Common.{◌≡◌, ◌≤◌, Contains}
use Rattle.table_races.specs.Crews.{IsFresh, Stays}
use Rattle.table_bench.proofs.labour.read_cell.Given as goal

abbrev pub invariant-loop-code : goal.invariant-loop-code
invariant-loop-code l = record {
  fresh : IsFresh l.fn.table l.seat;
  stays : Stays l.fn.seat.view l.seat.view;
  ready : Contains l.seat.view.ready l.fn.cell;
  loads : l.loads ≤ l.code;
}
