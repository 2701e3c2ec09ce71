use Rattle.std.proofs.Common.{ap, arith, rules}
use Rattle.std.proofs.lemmas.Int.{to_z-of_z}
use Rattle.std.specs.Prelude.{ℤ, FitsSigned}
use Rattle.std.specs.Int.{w16}
use Rattle.job_text.specs.Fonts.{font_of, with_right}
use Rattle.job_text.proofs.FontChanges.{change_font-set}
use Rattle.job_text.proofs.fonts.set_right.Goals as goal

pub returns-clause-changed : goal.returns-clause-changed
returns-clause-changed c =
    let fits : FitsSigned w16 c.args.hang = search rules in
    change_font-set _ _ _ _ _ (omega (arith, c.args.fonts.now.ok.0)) c.index_mut.ensures.value (ap (λ (h : ℤ). with_right c.args.code h (font_of c.index_mut.result.now)) (to_z-of_z w16 c.args.hang fits))
