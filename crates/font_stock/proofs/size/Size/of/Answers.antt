use Rattle.std.proofs.Common.{rules, arith, ◌≡◌, ◌≤◌, ◌*ℤ◌, ◌∙◌, ap, pos, ℤ, to_z, of_z, FitsSigned, w32, w64}
use Rattle.std.proofs.lemmas.Int.{ints, to_z-of_z}
use Rattle.micro_num.specs.Rounding.{truncated}
use Rattle.font_stock.proofs.Sizes.{thousandths_of_a_size}
use Rattle.font_stock.proofs.size.Size.of.Goals as goal

pub returns-in-Scaled-clause-some : goal.returns-in-Scaled-clause-some
returns-in-Scaled-clause-some c =
    let fits : FitsSigned w32 c.args.design = c.ranges.design in
    let fits_result : FitsSigned w64 c.xn_over_d.result = search rules in
    let asked : (1 ≤ c.in-Scaled.by) × (c.in-Scaled.by ≤ 32768) = rw c.in-Scaled.is at c.requires.asked in
    let some = asked.0 in
    let large = thousandths_of_a_size c.args.design c.in-Scaled.by c.requires.design.low some in
    let few = asked.1 in
    let design_is : to_z w64 (of_z w64 (to_z w32 (of_z w32 c.args.design))) ≡ c.args.design = omega (arith, ints) in
    let by_is : to_z w64 c.in-Scaled.by ≡ pos c.in-Scaled.by = omega (arith, ints) in
    let is : c.xn_over_d.result ≡ truncated (c.args.design *ℤ pos c.in-Scaled.by) (pos 1000) =
    c.xn_over_d.ensures ∙ ap (λ (d : ℤ). truncated (d *ℤ to_z w64 c.in-Scaled.by) (pos 1000)) design_is ∙ ap (λ (k : ℤ). truncated (c.args.design *ℤ k) (pos 1000)) by_is in
    simp to_z-of_z (rw is large)
