-- The glyphs of the workspace are the answer.
use Rattle.lig_kern.proofs.workspace.run.Goals as goal

pub returns-in-Ok-clause-glyphs : goal.returns-in-Ok-clause-glyphs
returns-in-Ok-clause-glyphs c = rw c.into_glyphs.ensures c.in-Ok.ensures.glyphs
