use Rattle.std.proofs.Common.{rules, ◌≡◌, [], ◌∷◌, false, ◌∙◌, ap, subst, ℤ, Option, w32, to_z, of_z, FitsSigned}
use Rattle.std.specs.Prelude.{IfOk, option_map}
use Rattle.std.proofs.lemmas.Int.{to_z-of_z}
use Rattle.line_break.specs.Taken.{Taken, first_taken}
use Rattle.break_rule.specs.Fits.{Rule}
use Rattle.break_pass.specs.Passes.{pass_of}
use Rattle.paragraph_breaks.specs.Passes.{at_most_infinite, rule_over, taken_by}
use Rattle.paragraph_breaks.proofs.PassSteps.{calm_rule, one_early}
use Rattle.paragraph_breaks.proofs.breaking.first_breaks.Goals as goal

pub returns : goal.returns
returns c =
    let r = c.args.rule.now in
    let cut = c.first_threshold-threshold.result in
    let fits : FitsSigned w32 cut = search rules in
    let threshold : to_z w32 (of_z w32 cut) ≡ at_most_infinite r.params.pretolerance =
    to_z-of_z w32 cut fits ∙ c.first_threshold-threshold.ensures in
    subst (λ (t : Option Taken). IfOk c.breaks_of_pass.result (λ breaks. option_map taken_by breaks ≡ t))
    (ap (λ (x : Rule). first_taken r.params.looseness ((1, pass_of x (to_z w32 (of_z w32 cut)) false) ∷ [])) (calm_rule r c.requires.calm)
    ∙ ap (λ (x : ℤ). first_taken r.params.looseness ((1, pass_of (rule_over r.items r.params r.shape r.stock false) x false) ∷ [])) threshold
    ∙ one_early r.items r.params r.shape r.stock c.requires.tried)
    c.breaks_of_pass.ensures
