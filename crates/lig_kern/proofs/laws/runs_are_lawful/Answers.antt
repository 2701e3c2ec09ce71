-- What holds of the glyphs of each run.
use Rattle.lig_kern.proofs.OwnLemmas.{run-lawful}
use Rattle.lig_kern.proofs.laws.runs_are_lawful.Goals as goal

pub returns : goal.returns
returns c = λ tfm codes left right glyphs run. run-lawful tfm codes left right glyphs run
