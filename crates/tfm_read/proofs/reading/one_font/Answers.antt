use Rattle.tfm_read.proofs.OneFont as lemmas
use Rattle.tfm_read.proofs.reading.one_font.Goals as goal

pub returns : goal.returns
returns c = lemmas.one_font
