use Rattle.tfm_read.proofs.OneFont.{counts}
use Rattle.tfm_read.proofs.reading.counts_are_told.Goals as goal

pub returns : goal.returns
returns c = counts
