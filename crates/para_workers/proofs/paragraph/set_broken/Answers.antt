-- The lines of a broken list as a page.
use Rattle.std.proofs.Common.{ℕ, arith, ap, ◌∙◌, subst, length, List}
use Rattle.std.proofs.lemmas.Result.{err_from_is_err_and}
use Rattle.micro_num.specs.declared.params.Params.{Params}
use Rattle.break_rule.specs.declared.line.From.TheVariants.{Start}
use Rattle.instance_core.specs.declared.page.Packed.{Packed}
use Rattle.instance_core.specs.declared.page.Page.{Page}
use Rattle.para_workers.specs.SetPar.{set_lines, stacked_in_range}
use Rattle.para_workers.proofs.FittingPages.{page-fits}
use Rattle.para_workers.proofs.LineTurns.{Gives, count-lines}
use Rattle.para_workers.proofs.WholePages.{only-bad, only-good, page-answer, page-touched}
use Rattle.para_workers.proofs.paragraph.set_broken.Goals as goal

pub returns-in_err-lines-clause-page : goal.returns-in_err-lines-clause-page
returns-in_err-lines-clause-page g c =
    let rule = c.args.broken.now.rule in
    let whole = ap (λ (bs : List ℕ). set_lines rule 1 Start bs) c.as_slice-breaks.ensures in
    let p = err_from_is_err_and c.from_residual.result c.from_residual.ensures.1 in
    rw (p.1, p.2, ← whole) (only-bad rule.params _ _ c.in_err-lines.ensures.lines)

pub returns-in_err-lines-clause-touched : goal.returns-in_err-lines-clause-touched
returns-in_err-lines-clause-touched g c =
    let whole = ap (λ (bs : List ℕ). set_lines c.args.broken.now.rule 1 Start bs) c.as_slice-breaks.ensures in
    let p = err_from_is_err_and c.from_residual.result c.from_residual.ensures.1 in
    rw (p.1, ← whole) c.in_err-lines.ensures.touched

pub page-requires : goal.page-requires
page-requires g c =
    let few = c.requires.few in
    let good = only-good c.in_ok-lines.lines _ c.in_ok-lines.ensures.lines in
    let count = ap (λ (ls : List Packed). length ls) good.0
    ∙ count-lines c.args.broken.now.rule 1 Start c.as_slice-breaks.result.now ∙ ap (λ (bs : List ℕ). length bs) c.as_slice-breaks.ensures in
    omega (arith, few, count)

pub returns-clause-page : goal.returns-clause-page
returns-clause-page g c =
    let rule = c.args.broken.now.rule in
    let whole = ap (λ (bs : List ℕ). set_lines rule 1 Start bs) c.as_slice-breaks.ensures in
    let good = only-good c.in_ok-lines.lines _ c.in_ok-lines.ensures.lines in
    let answer : Gives Page c.page.result (stacked_in_range rule.params c.in_ok-lines.lines)
    = subst (λ (params : Params). Gives Page c.page.result (stacked_in_range params c.in_ok-lines.lines)) c.params-params.ensures c.page.ensures in
    page-answer rule.params c.in_ok-lines.lines _ _ c.page.result answer good.0 good.1 whole

pub returns-clause-touched : goal.returns-clause-touched
returns-clause-touched g c =
    let whole = ap (λ (bs : List ℕ). set_lines c.args.broken.now.rule 1 Start bs) c.as_slice-breaks.ensures in
    let good = only-good c.in_ok-lines.lines _ c.in_ok-lines.ensures.lines in
    page-touched c.params-params.result.now c.in_ok-lines.lines _ c.page.result _ _ _ c.page.ensures (good.0 ∙ whole) c.in_ok-lines.ensures.touched

pub returns-clause-over : goal.returns-clause-over
returns-clause-over g c =
    page-fits c.args.stock.now c.params-params.result.now c.in_ok-lines.lines c.page.result c.page.ensures c.in_ok-lines.ensures.over
