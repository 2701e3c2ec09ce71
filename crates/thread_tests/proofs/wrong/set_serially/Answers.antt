use Rattle.std.proofs.Common.{◌≡◌, ◌∷◌}
use Rattle.std.proofs.lemmas.List.Elements.{All-rest}
use Rattle.std.specs.Vec.Iter.{into_iter_items}
use Rattle.table_races.specs.Crews.{IsFresh}
use Rattle.thread_tests.proofs.wrong.set_serially.Goals as goal

pub loop-seat-preserved : goal.loop-seat-preserved
loop-seat-preserved g c =
    let rest = into_iter_items c.next.new.self in
    let steps : into_iter_items c.loop-seat.seat-iterator ≡ c.in-Some.seat ∷ rest = c.in-Some.ensures.steps.0 in
    All-rest (IsFresh c.in_ok-patterns.field-0.table) c.in-Some.seat rest (into_iter_items c.loop-seat.seat-iterator) steps c.loop-seat.invariant
