-- Where a line begins is kept of the break before it.
use Rattle.std.proofs.Common.{ap}
use Rattle.break_rule.specs.declared.ends.Opening.{Opening}
use Rattle.break_rule.specs.Kept.{opening_of, opening_with}
use Rattle.break_rule.proofs.rule.BreakRule.begin.Goals as goal

pub returns : goal.returns
unfolding opening_of opening_with
returns c = ap (λ (opening : Opening). opening.begin) c.opening.ensures.exact
