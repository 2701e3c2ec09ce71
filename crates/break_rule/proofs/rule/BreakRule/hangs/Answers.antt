-- The hangs of a line come from what its ends keep.
use Rattle.std.proofs.Common.{rules, ap, ◌∙◌}
use Rattle.break_rule.specs.declared.ends.Opening.{Opening}
use Rattle.break_rule.specs.declared.ends.Closing.{Closing}
use Rattle.break_rule.specs.Between.{left_between, right_between}
use Rattle.break_rule.specs.Kept.{opening_of}
use Rattle.break_rule.proofs.Totals.{back}
use Rattle.break_rule.proofs.LineMargins.{left_of_ends, right_of_ends}
use Rattle.break_rule.proofs.rule.BreakRule.hangs.Goals as goal

pub returns-clause-left : goal.returns-clause-left
returns-clause-left c =
    let rule = c.args.self.now in
    back c.left_between.result _ (search rules) (c.left_between.ensures.exact
    ∙ ap (λ (opening : Opening). left_between opening c.closing-closing.result.now c.args.to) c.opening-opening.ensures.exact
    ∙ ap (λ (closing : Closing). left_between (opening_of rule.stock rule.items c.args.from) closing c.args.to) c.closing-closing.ensures.exact
    ∙ left_of_ends rule.params rule.stock rule.items c.args.from c.args.to c.requires.to.within)

pub returns-clause-right : goal.returns-clause-right
returns-clause-right c =
    let rule = c.args.self.now in
    back c.right_between.result _ (search rules) (c.right_between.ensures.exact
    ∙ ap (λ (opening : Opening). right_between opening c.closing-closing.result.now) c.opening-opening.ensures.exact
    ∙ ap (λ (closing : Closing). right_between (opening_of rule.stock rule.items c.args.from) closing) c.closing-closing.ensures.exact
    ∙ right_of_ends rule.params rule.stock rule.items c.args.from c.args.to c.requires.to.within)
