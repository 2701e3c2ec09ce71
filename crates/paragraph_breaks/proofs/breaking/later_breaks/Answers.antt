use Rattle.std.proofs.Common.{rules, ◌≡◌, [], ◌∷◌, true, false, ◌∙◌, ap, sym, ℤ, Bool, pos, int_le, w32, to_z, of_z, FitsSigned}
use Rattle.std.specs.Prelude.{option_map}
use Rattle.std.proofs.lemmas.Int.{to_z-of_z}
use Rattle.line_break.specs.Taken.{first_taken}
use Rattle.break_rule.specs.Fits.{Rule}
use Rattle.break_pass.specs.Passes.{pass_of}
use Rattle.paragraph_breaks.specs.Outcome.{without_emergency}
use Rattle.paragraph_breaks.specs.Passes.{at_most_infinite, rule_over, second_pass, taken_by, third_pass}
use Rattle.paragraph_breaks.proofs.PassSteps.{calm_rule, late_second, late_third}
use Rattle.paragraph_breaks.proofs.breaking.later_breaks.Goals as goal

-- the passes with their rule and threshold as they were handed over
module _ (r : Rule) (still : r.emergency ≡ false) (threshold : ℤ) (cut : threshold ≡ at_most_infinite r.params.tolerance) where
  second : (last : Bool) → last ≡ int_le r.params.emergencystretch (pos 0)
      → first_taken r.params.looseness ((2, pass_of r threshold last) ∷ [])
      ≡ first_taken r.params.looseness ((2, second_pass r.items r.params r.shape r.stock) ∷ [])
  second last is =
      ap (λ (x : Rule). first_taken r.params.looseness ((2, pass_of x threshold last) ∷ [])) (calm_rule r still)
      ∙ ap (λ (t : ℤ). first_taken r.params.looseness ((2, pass_of (rule_over r.items r.params r.shape r.stock false) t last) ∷ [])) cut
      ∙ ap (λ (b : Bool). first_taken r.params.looseness
      ((2, pass_of (rule_over r.items r.params r.shape r.stock false) (at_most_infinite r.params.tolerance) b) ∷ [])) is

  third : (x : Rule) → x ≡ record r { emergency = true }
      → first_taken x.params.looseness ((3, pass_of x threshold true) ∷ [])
      ≡ first_taken r.params.looseness ((3, third_pass r.items r.params r.shape r.stock) ∷ [])
  third x is =
      ap (λ (y : Rule). first_taken y.params.looseness ((3, pass_of y threshold true) ∷ [])) is
      ∙ ap (λ (t : ℤ). first_taken r.params.looseness ((3, pass_of (rule_over r.items r.params r.shape r.stock true) t true) ∷ [])) cut

pub returns-in-Some-clause-breaks : goal.returns-in-Some-clause-breaks
returns-in-Some-clause-breaks c =
    let r = c.args.rule in
    let cut = c.later_threshold-tolerance.result in
    let fits : FitsSigned w32 cut = search rules in
    let threshold : to_z w32 (of_z w32 cut) ≡ at_most_infinite r.params.tolerance =
    to_z-of_z w32 cut fits ∙ c.later_threshold-tolerance.ensures in
    late_second r.items r.params r.shape r.stock (taken_by c.in-Some.breaks)
    (sym (ap (option_map taken_by) c.in-Some.is)
    ∙ c.in_ok-breaks.ensures
    ∙ second r c.requires.calm (to_z w32 (of_z w32 cut)) threshold c.has_no_third_pass-last.result c.has_no_third_pass-last.ensures)

pub returns-in_ok-breaks-in-None-clause-breaks : goal.returns-in_ok-breaks-in-None-clause-breaks
returns-in_ok-breaks-in-None-clause-breaks c =
    let r = c.args.rule in
    let cut = c.later_threshold-tolerance.result in
    let fits : FitsSigned w32 cut = search rules in
    let threshold : to_z w32 (of_z w32 cut) ≡ at_most_infinite r.params.tolerance =
    to_z-of_z w32 cut fits ∙ c.later_threshold-tolerance.ensures in
    let none =
    sym (ap (option_map taken_by) c.in-None.is)
    ∙ c.in_ok-breaks.ensures
    ∙ second r c.requires.calm (to_z w32 (of_z w32 cut)) threshold c.has_no_third_pass-last.result c.has_no_third_pass-last.ensures in
    c.in_ok-breaks-in-None.ensures
    ∙ third r c.requires.calm (to_z w32 (of_z w32 cut)) threshold c.in_emergency-rule.result c.in_emergency-rule.ensures
    ∙ late_third r.items r.params r.shape r.stock none

pub returns-in-Some-clause-rule : goal.returns-in-Some-clause-rule
returns-in-Some-clause-rule c = sym (calm_rule c.args.rule c.requires.calm)

pub returns-in_ok-breaks-in-None-clause-rule : goal.returns-in_ok-breaks-in-None-clause-rule
returns-in_ok-breaks-in-None-clause-rule c = ap without_emergency c.in_emergency-rule.ensures ∙ sym (calm_rule c.args.rule c.requires.calm)
