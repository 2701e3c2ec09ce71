-- Fonts that give something have a step.
use Rattle.break_rule.proofs.StepLaws.{stretch-steps, shrink-steps}
use Rattle.break_rule.proofs.step_laws.fonts_that_give_have_steps.Goals as goal

pub returns : goal.returns
returns c = record { stretch = stretch-steps; shrink = shrink-steps }
