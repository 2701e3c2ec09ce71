use Rattle.std.proofs.Common.{◌≡◌, ◌≤◌}
use Rattle.table_races.specs.Crews.{IsFresh, Stays}
use Rattle.table_bench.proofs.labour.read_each.Given as goal

abbrev pub invariant-loop-cell : goal.invariant-loop-cell
invariant-loop-cell l = record {
  fresh : IsFresh l.fn.table l.seat;
  stays : Stays l.fn.seat.view l.seat.view;
}
