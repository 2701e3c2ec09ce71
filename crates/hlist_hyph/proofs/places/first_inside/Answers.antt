-- A number that isn't that of a place is passed.
use Rattle.std.proofs.Common.{◌+◌, refl, sym, ◌∙◌}
use Rattle.hlist_hyph.specs.Pieces.{first_inside, is_place}
use Rattle.hlist_hyph.proofs.LoopLemmas.{find-on}
use Rattle.hlist_hyph.proofs.places.first_inside.Goals as goal

pub loop-n-init : goal.loop-n-init
unfolding first_inside
loop-n-init c = refl

pub loop-n-preserved : goal.loop-n-preserved
loop-n-preserved c =
    find-on (λ n. is_place c.args.places.now (c.args.from + n)) c.loop-n.n c.args.count _ c.loop-n-test.true
    (sym c.is_place.ensures ∙ c.if-is_place.false) c.loop-n.invariant
