use Rattle.std.proofs.Common.{ap, sym, ◌∙◌, subst, List, ℤ, ◌+ℤ◌, w32, w64, FitsSigned, to_z, of_z, rules}
use Rattle.std.proofs.lemmas.Int.{to_z-of_z}
use Rattle.font_stock.specs.declared.font.Font.{Font}
use Rattle.hpack_two.specs.Steps.{IsChosen}
use Rattle.hpack_two.specs.Widths.{advance_of}
use Rattle.hpack_two.proofs.Fonts.{step-stored}
use Rattle.hpack_two.proofs.Stored.{sum-stored}
use Rattle.hpack_two.proofs.glyphs.Chosen.take_glyph.Goals as goal

pub advance-advance-requires-clause-step : goal.advance-advance-requires-clause-step
advance-advance-requires-clause-step g c =
    let fits : FitsSigned w32 c.step-step.result = search rules in
    subst (λ (stock : List Font). IsChosen stock c.args.font (to_z w32 (of_z w32 c.step-step.result))) (sym c.step-step.ensures.stock)
    (step-stored c.args.steps.now.stock.now c.args.font c.step-step.result fits c.step-step.ensures.chosen)

pub returns-clause-natural : goal.returns-clause-natural
returns-clause-natural g c =
    let stock = c.args.steps.now.stock.now in
    let step = c.step-step.result in
    let own_fits : FitsSigned w64 c.args.self.now.natural = search rules in
    let fits : FitsSigned w32 c.advance-advance.result = search rules in
    let step_fits : FitsSigned w32 step = search rules in
    sum-stored c.args.self.now.natural c.advance-advance.result own_fits fits c.requires.near
    ∙ ap (λ (n : ℤ). c.args.self.now.natural +ℤ n)
    (c.advance-advance.ensures.exact
    ∙ ap (λ (s : List Font). advance_of s (to_z w32 (of_z w32 step)) c.args.font c.args.code) c.step-step.ensures.stock
    ∙ ap (λ (n : ℤ). advance_of stock n c.args.font c.args.code) (to_z-of_z w32 step step_fits ∙ c.step-step.ensures.exact))
