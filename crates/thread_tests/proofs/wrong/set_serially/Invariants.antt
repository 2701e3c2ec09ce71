use Rattle.std.specs.Prelude.{All}
use Rattle.std.specs.Vec.Iter.{into_iter_items}
use Rattle.table_races.specs.Crews.{IsFresh}
use Rattle.thread_tests.proofs.wrong.set_serially.Given as goal

-- the seats to come were never used
abbrev pub invariant-loop-seat : goal.invariant-loop-seat
invariant-loop-seat g l = All (IsFresh l.table) (into_iter_items l.seat-iterator)
