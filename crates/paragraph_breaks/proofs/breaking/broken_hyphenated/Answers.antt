use Rattle.std.proofs.Common.{◌≡◌, subst, Some}
use Rattle.std.specs.Prelude.{IfOk}
use Rattle.break_rule.specs.Fits.{Rule}
use Rattle.list_fonts.proofs.OverLaws.{list_over}
use Rattle.paragraph_breaks.specs.Outcome.{without_emergency}
use Rattle.paragraph_breaks.specs.Passes.{late_taken, taken_by}
use Rattle.paragraph_breaks.proofs.breaking.broken_hyphenated.Goals as goal

pub make-requires-clause-over : goal.make-requires-clause-over
make-requires-clause-over c = list_over c.args.stock.now c.args.list.now c.requires.own

pub returns-clause-rule : goal.returns-clause-rule
returns-clause-rule c =
    subst (λ (r : Rule). IfOk c.later_breaks.result (λ broken. without_emergency broken.rule ≡ r)) c.in_ok-rule.ensures c.later_breaks.ensures.rule

pub returns-clause-breaks : goal.returns-clause-breaks
returns-clause-breaks c =
    subst (λ (r : Rule). IfOk c.later_breaks.result (λ broken. Some (taken_by broken.breaks) ≡ late_taken r.items r.params r.shape r.stock))
    c.in_ok-rule.ensures c.later_breaks.ensures.breaks
