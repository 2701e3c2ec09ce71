use Rattle.job_fonts.proofs.OneAnswer as lemmas
use Rattle.job_fonts.proofs.laws.one_font.Goals as goal

pub returns : goal.returns
returns c = lemmas.one_font
