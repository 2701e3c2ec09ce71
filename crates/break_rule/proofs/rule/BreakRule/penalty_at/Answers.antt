-- The penalty is kept with the place.
use Rattle.std.proofs.Common.{rules, ap, ◌∙◌, w32}
use Rattle.std.proofs.lemmas.Int.{to_z-of_z}
use Rattle.break_rule.specs.declared.ends.Closing.{Closing}
use Rattle.break_rule.specs.Kept.{closing_of}
use Rattle.break_rule.proofs.rule.BreakRule.penalty_at.Goals as goal

pub returns : goal.returns
unfolding closing_of
returns c = to_z-of_z w32 c.closing.result.now.penalty (search rules) ∙ ap (λ (closing : Closing). closing.penalty) c.closing.ensures.exact
