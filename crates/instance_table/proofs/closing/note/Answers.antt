use Rattle.std.proofs.Common.{rules, ◌≡◌, ◌∙◌, refl, length-set}
use Rattle.instance_table.proofs.OwnerLemmas.{noted-more}
use Rattle.instance_table.proofs.closing.note.Goals as goal

pub loop-claimed-preserved : goal.loop-claimed-preserved
loop-claimed-preserved c = record {
  noted = noted-more c.loop-claimed.builders.items c.args.claims.now c.loop-claimed.claimed-index _ _ c.loop-claimed-test.true refl
      c.loop-claimed.invariant.noted;
  kept = search rules;
}
