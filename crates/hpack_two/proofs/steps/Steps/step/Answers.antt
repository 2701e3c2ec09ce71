use Rattle.std.proofs.Common.{◌≡◌, sym, ap, ◌∙◌, subst, Option, w32, FitsSigned, rules, arith}
use Rattle.std.specs.Prelude.{IfSome, slice_index}
use Rattle.std.proofs.lemmas.Int.{to_z-of_z, fits_signed_from_abs}
use Rattle.font_stock.specs.declared.font.Font.{Font}
use Rattle.font_stock.specs.Steps.{step_of}
use Rattle.hpack_two.specs.declared.steps.Found.{Found}
use Rattle.hpack_two.specs.Steps.{HasStep, IsFound}
use Rattle.hpack_two.proofs.Fonts.{some-is, found-chosen, found-now, step-stored}
use Rattle.hpack_two.proofs.steps.Steps.step.Goals as goal

pub returns-then-last-factor-clause-chosen : goal.returns-then-last-factor-clause-chosen
returns-then-last-factor-clause-chosen c =
    let self = c.args.self.now in
    let last = c.in-Some.last in
    let fits : FitsSigned w32 last.step = search rules in
    let known = subst (λ (o : Option Found). IfSome o (IsFound self.stock.now self.ratio)) c.in-Some.is self.found in
    step-stored self.stock.now c.args.font last.step fits
    (found-chosen self.stock.now self.ratio last c.args.font c.font.result.now c.font.ensures known c.if-last-font.true)

pub invariant_of-self : goal.invariant_of-self
invariant_of-self c =
    let self = c.args.self.now in
    let step = c.step_for-step.result in
    let fits : FitsSigned w32 step = search rules in
    let same : c.font-2.result.now ≡ c.font.result.now = some-is _ _ (sym c.font-2.ensures ∙ c.font.ensures) in
    let ratio_fits : FitsSigned w32 self.ratio = fits_signed_from_abs w32 self.ratio (omega (arith, self.ratio_fits)) in
    let found_is = rw (to_z-of_z w32 self.ratio ratio_fits) at c.step_for-step.ensures.exact in
    let exact = ap (λ (f : Font). step_of f.expand (slice_index f.codes.ef c.args.code) self.ratio) same in
    record {
      ratio_fits = self.ratio_fits;
      found = found-now self.stock.now self.ratio _ c.font.result.now c.font.ensures
          (to_z-of_z w32 step fits ∙ found_is ∙ exact)
          (rw (to_z-of_z w32 step fits) (subst (HasStep step) same c.step_for-step.ensures.instance));
    }
