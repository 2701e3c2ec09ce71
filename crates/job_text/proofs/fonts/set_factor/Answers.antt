use Rattle.std.proofs.Common.{refl, arith}
use Rattle.job_text.proofs.FontChanges.{change_font-set}
use Rattle.job_text.proofs.fonts.set_factor.Goals as goal

pub returns-clause-changed : goal.returns-clause-changed
returns-clause-changed c =
    change_font-set _ _ _ _ _ (omega (arith, c.args.fonts.now.ok.0)) c.index_mut.ensures.value refl
