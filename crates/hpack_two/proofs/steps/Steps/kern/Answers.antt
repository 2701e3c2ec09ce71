use Rattle.std.proofs.Common.{sym, subst, List, w32, FitsSigned, to_z, of_z, rules}
use Rattle.std.specs.Prelude.{Contains}
use Rattle.font_stock.specs.declared.font.Font.{Font}
use Rattle.hlist.specs.Bounds.{OfFont}
use Rattle.hpack_two.specs.Steps.{IsChosen}
use Rattle.hpack_two.proofs.Fonts.{kern-stored, step-stored}
use Rattle.hpack_two.proofs.steps.Steps.kern.Goals as goal

pub kern_at-requires-clause-kern : goal.kern_at-requires-clause-kern
kern_at-requires-clause-kern c =
    subst (λ (stock : List Font). OfFont stock c.args.font (λ (f : Font). Contains f.tfm.kerns (to_z w32 (of_z w32 c.args.fix)))) (sym c.step-step.ensures.stock)
    (kern-stored c.args.self.now.stock.now c.args.font c.args.fix c.requires)

pub kern_at-requires-clause-step : goal.kern_at-requires-clause-step
kern_at-requires-clause-step c =
    let fits : FitsSigned w32 c.step-step.result = search rules in
    subst (λ (stock : List Font). IsChosen stock c.args.font (to_z w32 (of_z w32 c.step-step.result))) (sym c.step-step.ensures.stock)
    (step-stored c.args.self.now.stock.now c.args.font c.step-step.result fits c.step-step.ensures.chosen)
