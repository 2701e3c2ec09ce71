use Rattle.std.proofs.Common.{arith, ◌≡◌, ◌≤◌, ◌<◌, ◌*◌, ◌/◌, ◌≤ℤ◌, ◌<ℤ◌, ◌∙◌, sym, ap, pos, neg_ℤ, FitsSigned, w32}
use Rattle.std.specs.Prelude.{unsigned_abs}
use Rattle.std.proofs.lemmas.Int.{ints, to_z-of_z}
use Rattle.micro_num.specs.Scaling.{kept_size, scaled}
use Rattle.micro_num.proofs.Floors.{scaled-negative, scaled-positive, quotient_bound, quotient_cut_bound, size_of_negative, size_of_positive}
use Rattle.micro_num.proofs.scaling.scale.Goals as goal

pub returns-then-w-lt0 : goal.returns-then-w-lt0
returns-then-w-lt0 c =
    let fits_w : FitsSigned w32 c.args.w = c.ranges.w in
    let fits_z : FitsSigned w32 c.args.z = c.ranges.z in
    let size : c.unsigned_abs.result ≡ unsigned_abs c.args.w = simp to_z-of_z at c.unsigned_abs.ensures.value in
    let whole : c.unsigned_abs-2.result ≡ unsigned_abs c.args.z = simp to_z-of_z at c.unsigned_abs-2.ensures.value in
    let below : c.args.w <ℤ pos 0 = grind (arith, ints) in
    let low : c.unsigned_abs.result ≤ 16777216 = rw size (size_of_negative c.args.w c.requires.fix_word.low below) in
    let bound : c.div_ceil.result ≤ 2147483392 = rw c.div_ceil.ensures (quotient_bound c.unsigned_abs.result c.kept.result low c.kept.ensures.below) in
    let kept : c.kept.result ≡ kept_size (unsigned_abs c.args.z) = c.kept.ensures.exact ∙ ap kept_size whole in
    let same : scaled c.args.w c.args.z ≡ neg_ℤ (pos c.div_ceil.result) =
    scaled-negative c.args.w c.args.z _ _ below size kept ∙ ap (λ n. neg_ℤ (pos n)) (sym c.div_ceil.ensures) in
    rw same (omega (arith, ints))

pub returns-else-w-lt0 : goal.returns-else-w-lt0
returns-else-w-lt0 c =
    let fits_w : FitsSigned w32 c.args.w = c.ranges.w in
    let fits_z : FitsSigned w32 c.args.z = c.ranges.z in
    let size : c.unsigned_abs.result ≡ unsigned_abs c.args.w = simp to_z-of_z at c.unsigned_abs.ensures.value in
    let whole : c.unsigned_abs-2.result ≡ unsigned_abs c.args.z = simp to_z-of_z at c.unsigned_abs-2.ensures.value in
    let above : pos 0 ≤ℤ c.args.w = grind (arith, ints) in
    let high : c.unsigned_abs.result ≤ 16777215 = rw size (size_of_positive c.args.w c.requires.fix_word.high above) in
    let bound : c.unsigned_abs.result * c.kept.result / 1048576 < 2147483648 = quotient_cut_bound c.unsigned_abs.result c.kept.result high c.kept.ensures.below in
    let kept : c.kept.result ≡ kept_size (unsigned_abs c.args.z) = c.kept.ensures.exact ∙ ap kept_size whole in
    let same : scaled c.args.w c.args.z ≡ pos (c.unsigned_abs.result * c.kept.result / 1048576) =
    scaled-positive c.args.w c.args.z _ _ above size kept in
    rw same (omega (arith, ints))
