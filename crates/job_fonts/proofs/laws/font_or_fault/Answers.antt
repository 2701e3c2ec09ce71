use Rattle.job_fonts.proofs.OneAnswer as lemmas
use Rattle.job_fonts.proofs.laws.font_or_fault.Goals as goal

pub returns : goal.returns
returns c = lemmas.font_or_fault
