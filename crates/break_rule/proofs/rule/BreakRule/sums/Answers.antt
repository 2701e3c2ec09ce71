-- What a line adds up to is a difference of what its ends keep.
use Rattle.std.proofs.Common.{ap, ◌∙◌}
use Rattle.break_rule.specs.declared.ends.Opening.{Opening}
use Rattle.break_rule.specs.declared.ends.Closing.{Closing}
use Rattle.break_rule.specs.Adding.{minus}
use Rattle.break_rule.specs.Kept.{closing_of}
use Rattle.break_rule.proofs.Totals.{minus-within}
use Rattle.break_rule.proofs.MeasureLaws.{measure_of_ends}
use Rattle.break_rule.proofs.rule.BreakRule.sums.Goals as goal

pub returns-clause-exact : goal.returns-clause-exact
returns-clause-exact c =
    let rule = c.args.self.now in
    c.minus.ensures
    ∙ ap (λ (closing : Closing). minus closing.sums c.opening.result.now.less) c.closing.ensures.exact
    ∙ ap (λ (opening : Opening). minus (closing_of rule.params rule.stock rule.items c.args.to).sums opening.less) c.opening.ensures.exact
    ∙ measure_of_ends rule.params rule.stock rule.items c.args.from c.args.to

pub returns-clause-small : goal.returns-clause-small
returns-clause-small c =
    rw c.minus.ensures (minus-within 98304 98304 c.closing.result.now.sums c.opening.result.now.less c.closing.ensures.small.sums c.opening.ensures.small.less)
