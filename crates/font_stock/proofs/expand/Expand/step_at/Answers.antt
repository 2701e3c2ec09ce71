use Rattle.std.proofs.Common.{arith, ◌≡◌, ◌<◌, ◌<ℤ◌, ◌^◌, ◌∙◌, ap, sym, pos, neg_ℤ, FitsSigned, w32}
use Rattle.std.specs.Prelude.{unsigned_abs}
use Rattle.std.proofs.lemmas.Int.{ints, to_z-of_z}
use Rattle.micro_num.proofs.Signs.{minus_stored}
use Rattle.font_stock.specs.Steps.{limit_of, step_at}
use Rattle.font_stock.proofs.WholeSteps.{step_of_negative}
use Rattle.font_stock.proofs.expand.Expand.step_at.Goals as goal

pub returns-then-ratio-lt0-clause-exact : goal.returns-then-ratio-lt0-clause-exact
returns-then-ratio-lt0-clause-exact c =
    let fits : FitsSigned w32 c.args.ratio = c.ranges.ratio in
    let size : c.unsigned_abs.result ≡ unsigned_abs c.args.ratio = simp to_z-of_z at c.unsigned_abs.ensures.value in
    let below : c.args.ratio <ℤ pos 0 = grind (arith, ints) in
    let negative = step_of_negative c.args.ratio c.unsigned_abs.result c.args.factor (limit_of c.args.self.now c.args.ratio) c.args.self.now.step below size c.args.self.now.limits.step_starts in
    let few : c.whole_steps-magnitude.result < 2 ^ 31 = omega arith in
    let limit : c.limit.result ≡ limit_of c.args.self.now c.args.ratio = simp to_z-of_z at c.limit.ensures.exact in
    let exact = rw limit at c.whole_steps-magnitude.ensures.exact in
    let same : step_at c.args.self.now c.args.factor c.args.ratio ≡ neg_ℤ (pos c.whole_steps-magnitude.result) =
    negative ∙ ap (λ m. neg_ℤ (pos m)) (sym exact) in
    rw same (minus_stored w32 _ few)
