use Rattle.std.proofs.Common.{◌≡◌, ◌<◌, ◌^◌, FitsSigned}
use Rattle.std.specs.Prelude.{unsigned_abs}
use Rattle.std.specs.Int.{w128}
use Rattle.std.proofs.lemmas.Int.{to_z-of_z}
use Rattle.micro_num.specs.Rounding.{nearest}
use Rattle.micro_num.proofs.Signs.{minus_stored, nearest_fits, rounded-unlike}
use Rattle.micro_num.proofs.rounding.round_over.Goals as goal

pub returns-else-n-d : goal.returns-else-n-d
returns-else-n-d c =
    let fits_n : FitsSigned w128 c.args.n = c.ranges.n in
    let fits_d : FitsSigned w128 c.args.d = c.ranges.d in
    let n_abs : c.unsigned_abs.result ≡ unsigned_abs c.args.n = simp to_z-of_z at c.unsigned_abs.ensures.value in
    let d_abs : c.unsigned_abs-2.result ≡ unsigned_abs c.args.d = simp to_z-of_z at c.unsigned_abs-2.ensures.value in
    let unlike = simp to_z-of_z at c.if-n-d.false in
    let same = rounded-unlike c.args.n c.args.d unlike in
    let nearest_is : c.nearest-magnitude.result ≡ nearest (unsigned_abs c.args.n) (unsigned_abs c.args.d) = rw (← n_abs, ← d_abs) c.nearest-magnitude.ensures in
    let fits : c.nearest-magnitude.result < 2 ^ 127 = rw nearest_is (nearest_fits _ _ c.requires.n_size c.requires.d_size) in
    rw (same, ← nearest_is) (minus_stored w128 _ fits)
