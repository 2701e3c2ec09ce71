use Rattle.std.proofs.Common.{◌-◌, ◌∙◌, ap, refl, length, get_or, option_map, w32, to_z, of_z, arith}
use Rattle.paragraph_breaks.specs.Nearness.{excess}
use Rattle.paragraph_breaks.proofs.LooseWays.{nearer_step}
use Rattle.paragraph_breaks.proofs.loose.nearest_group.Goals as goal

pub loop-back-preserved : goal.loop-back-preserved
loop-back-preserved c =
    let groups = c.args.groups.now in
    let back = c.loop-back.back in
    let group = get_or groups (length groups - 1 - back) 0 in
    ap (option_map (excess c.args.best)) c.nearer-found.ensures
    ∙ nearer_step (to_z w32 (of_z w32 c.args.looseness)) c.args.best groups back group 0 c.loop-back.found (omega arith) refl c.loop-back.invariant
