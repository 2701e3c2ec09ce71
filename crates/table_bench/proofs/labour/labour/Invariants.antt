use Rattle.std.proofs.Common.{◌≡◌}
use Rattle.table_races.specs.Crews.{IsFresh}
use Rattle.table_bench.proofs.labour.labour.Given as goal

abbrev pub invariant-loop : goal.invariant-loop
invariant-loop l = IsFresh l.fn.table l.seat
