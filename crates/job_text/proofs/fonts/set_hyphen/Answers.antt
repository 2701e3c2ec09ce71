use Rattle.std.proofs.Common.{ap, arith, rules, w32}
use Rattle.std.proofs.lemmas.Int.{to_z-of_z}
use Rattle.std.specs.Prelude.{ℤ, FitsSigned}
use Rattle.job_text.specs.Fonts.{font_of, with_hyphen}
use Rattle.job_text.proofs.FontChanges.{change_font-set}
use Rattle.job_text.proofs.fonts.set_hyphen.Goals as goal

pub returns-clause-changed : goal.returns-clause-changed
returns-clause-changed c =
    let fits : FitsSigned w32 c.args.hyphen = search rules in
    change_font-set _ _ _ _ _ (omega (arith, c.args.fonts.now.ok.0)) c.index_mut.ensures.value (ap (λ (h : ℤ). with_hyphen h (font_of c.index_mut.result.now)) (to_z-of_z w32 c.args.hyphen fits))
