-- The fit is that of the sums, as the steps give it.
use Rattle.std.proofs.Common.{rules, ap, ◌∙◌, w32, w64, FitsSigned}
use Rattle.std.specs.Prelude.{ℤ, ◌+ℤ◌}
use Rattle.std.proofs.lemmas.Int.{to_z-of_z}
use Rattle.break_rule.specs.Fits.{fit_at, emergency_of, after_fonts}
use Rattle.break_rule.proofs.fit.fit.Goals as goal

pub returns : goal.returns
returns c =
    let sums = c.args.sums.now in
    let params = c.args.params.now in
    let finite : FitsSigned w64 sums.finite = search rules in
    let wide : FitsSigned w64 sums.width = search rules in
    let narrow : FitsSigned w32 c.args.width = search rules in
    let out : FitsSigned w64 c.args.hang = search rules in
    let more : FitsSigned w32 c.emergency_stretch.result = search rules in
    let long : FitsSigned w64 c.lengthened-finite.result = search rules in
    let natural : FitsSigned w64 c.shortfall-natural.result = search rules in
    let short : FitsSigned w64 c.after_fonts-short.result = search rules in
    let judged = simp to_z-of_z at c.judged.ensures in
    let lengthened = simp to_z-of_z at c.lengthened-finite.ensures in
    let left = simp to_z-of_z at c.after_fonts-short.ensures.exact in
    let missing = simp to_z-of_z at c.shortfall-natural.ensures.exact in
    judged
    ∙ ap (λ (f : ℤ). fit_at sums f c.after_fonts-short.result) (lengthened ∙ ap (λ (m : ℤ). sums.finite +ℤ m) c.emergency_stretch.ensures)
    ∙ ap (fit_at sums (sums.finite +ℤ emergency_of params c.args.emergency)) (left ∙ ap (after_fonts params c.args.expand sums) missing)
