use Rattle.job_dvi.proofs.TouchedUses.{touched_are_used}
use Rattle.job_dvi.proofs.laws.what_pages_touch_they_use.Goals as goal

pub returns : goal.returns
returns c = touched_are_used
