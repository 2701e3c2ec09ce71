-- A run that has glyphs gives their items.
use Rattle.lig_kern.specs.Covering.{Lawful}
use Rattle.hlist_runs.proofs.GlyphLemmas.{cuts-within}
use Rattle.hlist_build.proofs.runs.push_run_in.Goals as goal

pub push_glyphs-requires : goal.push_glyphs-requires
push_glyphs-requires c =
    let lawful : Lawful c.args.font.now.tfm c.args.codes.now c.run.new.self = rw c.tfm-2.ensures at c.in-Ok.ensures.lawful in
    rw c.glyphs.ensures record { own = lawful.own; within = cuts-within 0 _ _ lawful.cuts }
