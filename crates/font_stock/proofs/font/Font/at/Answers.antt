use Rattle.std.proofs.Common.{rules, arith, ◌≡◌, ◌≤ℤ◌, ◌<ℤ◌, ◌∙◌, ap, sym, pos, None, FitsSigned, w32, w64}
use Rattle.std.proofs.lemmas.Int.{ints, to_z-of_z}
use Rattle.font_stock.specs.Refusals.{refusal_of, too_wide, wide_kern, wide_refusal}
use Rattle.font_stock.specs.Sizes.{size_of}
use Rattle.font_stock.proofs.Causes.{refusal_of-past, refusal_of-within}
use Rattle.font_stock.proofs.font.Font.at.Goals as goal

pub returns-then-asked : goal.returns-then-asked
returns-then-asked c =
    let fits_design : FitsSigned w32 c.args.tfm.design = search rules in
    let fits : FitsSigned w64 c.of-asked.result = search rules in
    let exact : c.of-asked.result ≡ size_of c.args.tfm.design c.args.size = simp to_z-of_z at c.of-asked.ensures.exact in
    let above : pos 134217728 ≤ℤ c.of-asked.result = grind (arith, ints) in
    rw (to_z-of_z w64 c.of-asked.result fits, exact) (refusal_of-past c.args.tfm c.args.size c.args.expand (rw (← exact) above))

pub returns-in-Some : goal.returns-in-Some
returns-in-Some c =
    let fits_design : FitsSigned w32 c.args.tfm.design = search rules in
    let fits : FitsSigned w64 c.of-asked.result = search rules in
    let exact : c.of-asked.result ≡ size_of c.args.tfm.design c.args.size = simp to_z-of_z at c.of-asked.ensures.exact in
    let below : c.of-asked.result <ℤ pos 134217728 = grind (arith, ints) in
    refusal_of-within c.args.tfm c.args.size c.args.expand (rw (← exact) below)
    ∙ ap (λ code. wide_refusal code (wide_kern c.args.expand c.args.tfm.kerns)) (sym c.in-Some.ensures)

pub returns-in-Some-too_wide_kern : goal.returns-in-Some-too_wide_kern
returns-in-Some-too_wide_kern c =
    let fits_design : FitsSigned w32 c.args.tfm.design = search rules in
    let fits : FitsSigned w64 c.of-asked.result = search rules in
    let exact : c.of-asked.result ≡ size_of c.args.tfm.design c.args.size = simp to_z-of_z at c.of-asked.ensures.exact in
    let below : c.of-asked.result <ℤ pos 134217728 = grind (arith, ints) in
    let none : too_wide c.args.expand c.args.tfm.chars ≡ None = search rules in
    refusal_of-within c.args.tfm c.args.size c.args.expand (rw (← exact) below)
    ∙ ap (λ code. wide_refusal code (wide_kern c.args.expand c.args.tfm.kerns)) none
    ∙ ap (wide_refusal None) (sym c.in-Some-too_wide_kern.ensures)

pub returns : goal.returns
returns c =
    let fits_design : FitsSigned w32 c.args.tfm.design = search rules in
    let fits : FitsSigned w64 c.of-asked.result = search rules in
    let exact : c.of-asked.result ≡ size_of c.args.tfm.design c.args.size = simp to_z-of_z at c.of-asked.ensures.exact in
    let below : c.of-asked.result <ℤ pos 134217728 = grind (arith, ints) in
    let none : too_wide c.args.expand c.args.tfm.chars ≡ None = search rules in
    let no_kern : wide_kern c.args.expand c.args.tfm.kerns ≡ None = search rules in
    let accepted : refusal_of c.args.tfm c.args.size c.args.expand ≡ None =
    refusal_of-within c.args.tfm c.args.size c.args.expand (rw (← exact) below)
    ∙ ap (λ code. wide_refusal code (wide_kern c.args.expand c.args.tfm.kerns)) none ∙ ap (wide_refusal None) no_kern in
    let size : c.made.result.size ≡ c.of-asked.result = omega (arith, ints, c.made.ensures.size, c.of-asked.ensures.some) in (
      accepted,
      record {
        metrics = c.made.ensures.metrics;
        size_asked = size ∙ exact;
        settings = c.made.ensures.settings;
        expansion = c.made.ensures.expansion;
      },
    )
