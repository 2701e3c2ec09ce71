use Rattle.job_fonts.proofs.OneAnswer.{only_font, first_fault}
use Rattle.job_fonts.proofs.read.read_font.Goals as goal

pub returns-clause-only : goal.returns-clause-only
returns-clause-only c = only_font _ _ _ c.font_of.ensures.font c.font_of.ensures.fault

pub returns-clause-first : goal.returns-clause-first
returns-clause-first c = first_fault _ _ _ c.font_of.ensures.font c.font_of.ensures.fault
