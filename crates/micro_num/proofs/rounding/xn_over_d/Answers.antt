use Rattle.std.proofs.Common.{arith, ◌≡◌, ◌≤◌, ◌<◌, ◌*◌, ◌/◌, ◌^◌, ◌<ℤ◌, pos, FitsSigned, w64}
use Rattle.std.specs.Prelude.{unsigned_abs}
use Rattle.std.proofs.lemmas.Int.{ints, to_z-of_z}
use Rattle.micro_num.proofs.Signs.{truncated-negative, quotient_fits, minus_stored}
use Rattle.micro_num.proofs.rounding.xn_over_d.Goals as goal

pub returns-then-x-lt0 : goal.returns-then-x-lt0
returns-then-x-lt0 c =
    let fits_x : FitsSigned w64 c.args.x = c.ranges.x in
    let fits_n : FitsSigned w64 c.args.n = c.ranges.n in
    let fits_d : FitsSigned w64 c.args.d = c.ranges.d in
    let size : c.unsigned_abs.result ≡ unsigned_abs c.args.x = simp to_z-of_z at c.unsigned_abs.ensures.value in
    let below : c.args.x <ℤ pos 0 = grind (arith, ints) in
    let same = truncated-negative c.args.x c.args.n c.args.d c.unsigned_abs.result below c.requires.n_sign c.requires.d_sign size in
    let small : c.unsigned_abs.result ≤ 2147483648 = rw size c.requires.x_size in
    let fits : c.unsigned_abs.result * unsigned_abs c.args.n / unsigned_abs c.args.d < 2 ^ 63 =
    quotient_fits c.unsigned_abs.result c.args.n (unsigned_abs c.args.d) small c.requires.n_sign c.requires.n_size in
    rw same (simp to_z-of_z (minus_stored w64 _ fits))
