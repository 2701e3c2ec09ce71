use Rattle.std.proofs.Common.{ap, sym, ◌∙◌, ℤ, w32, FitsSigned, rules}
use Rattle.std.proofs.lemmas.Int.{to_z-of_z}
use Rattle.hpack_two.specs.Steps.{HasStep}
use Rattle.hpack_two.specs.Widths.{kern_width}
use Rattle.hpack_two.proofs.Fonts.{of_font, kern-is, kern-at_step}
use Rattle.hpack_two.proofs.Stored.{zero-stored, some-stored}
use Rattle.hpack_two.proofs.steps.kern_at.Goals as goal

pub scaled_width-requires-clause-fix_word : goal.scaled_width-requires-clause-fix_word
scaled_width-requires-clause-fix_word c =
    let fix = c.args.fix in
    let step = c.args.step in
    let fix_fits : FitsSigned w32 fix = search rules in
    let step_fits : FitsSigned w32 step = search rules in
    let font = c.font-font.result.now in
    let has = of_font c.args.stock.now c.args.font (HasStep step) font c.requires.step c.font-font.ensures in
    let owns = of_font c.args.stock.now c.args.font _ font c.requires.kern c.font-font.ensures in
    rw (to_z-of_z w32 fix fix_fits, to_z-of_z w32 step step_fits)
    (kern-at_step font.expand fix step (some-stored step c.if-step-eq0.false) has (c.kerns_are_fix_words.ensures.expanded fix step owns))

pub returns-then-step-eq0 : goal.returns-then-step-eq0
returns-then-step-eq0 c =
    let fix_fits : FitsSigned w32 c.args.fix = search rules in
    let step_fits : FitsSigned w32 c.args.step = search rules in
    let fits : FitsSigned w32 c.kern.result = search rules in
    let is = simp to_z-of_z at c.kern.ensures in
    let none = zero-stored c.args.step step_fits c.if-step-eq0.true in
    to_z-of_z w32 c.kern.result fits
    ∙ is
    ∙ kern-is c.args.stock.now c.args.font c.args.fix c.font-font.result.now c.font-font.ensures
    ∙ ap (λ (s : ℤ). kern_width c.args.stock.now s c.args.font c.args.fix) (sym none)
