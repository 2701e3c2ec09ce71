use Rattle.std.proofs.Common.{◌-◌, length, arith}
use Rattle.std.specs.Prelude.{slice_index}
use Rattle.paragraph_breaks.proofs.WayPlaces.{place_within, place_step}
use Rattle.paragraph_breaks.proofs.places.break_places.Goals as goal

pub overflow_sub-place : goal.overflow_sub-place
overflow_sub-place c =
    let high = place_within c.args.way.now (length c.args.legal.now) c.loop-line.line _ c.requires (omega arith) c.node_at-place.ensures in
    omega (arith, high)

pub bounds-legal-place : goal.bounds-legal-place
bounds-legal-place c =
    let high = place_within c.args.way.now (length c.args.legal.now) c.loop-line.line _ c.requires (omega arith) c.node_at-place.ensures in
    omega (arith, high)

pub loop-line-preserved : goal.loop-line-preserved
loop-line-preserved c =
    place_step c.args.way.now (λ place. slice_index c.args.legal.now (place - 1)) c.loop-line.line _ c.loop-line.breaks _ (omega arith)
    c.node_at-place.ensures c.loop-line.invariant c.in_ok-push.ensures.ok
