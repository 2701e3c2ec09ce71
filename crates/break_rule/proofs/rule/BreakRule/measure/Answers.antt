-- The measure is the sums as they are handed out.
use Rattle.std.proofs.Common.{ap, ◌∙◌}
use Rattle.break_rule.specs.Lines.{measure_of, as_measure}
use Rattle.break_rule.proofs.rule.BreakRule.measure.Goals as goal

pub returns : goal.returns
unfolding measure_of
returns c = c.as_measure.ensures ∙ ap as_measure c.sums.ensures.exact
