use Rattle.std.proofs.Common.{◌≡◌, FitsSigned, w64}
use Rattle.std.specs.Prelude.{unsigned_abs}
use Rattle.std.proofs.lemmas.Int.{to_z-of_z}
use Rattle.micro_num.specs.Rounding.{nearest}
use Rattle.micro_num.proofs.Signs.{minus_stored, rounded-unlike}
use Rattle.hpack_two.proofs.quotients.rounded_over.Goals as goal

pub returns-else-n-d : goal.returns-else-n-d
returns-else-n-d c =
    let fits_n : FitsSigned w64 c.args.n = c.ranges.n in
    let fits_d : FitsSigned w64 c.args.d = c.ranges.d in
    let n_abs : c.unsigned_abs.result ≡ unsigned_abs c.args.n = simp to_z-of_z at c.unsigned_abs.ensures.value in
    let d_abs : c.unsigned_abs-2.result ≡ unsigned_abs c.args.d = simp to_z-of_z at c.unsigned_abs-2.ensures.value in
    let unlike = simp to_z-of_z at c.if-n-d.false in
    let same = rounded-unlike c.args.n c.args.d unlike in
    let nearest_is : c.nearest-magnitude.result ≡ nearest (unsigned_abs c.args.n) (unsigned_abs c.args.d) = rw (← n_abs, ← d_abs) c.nearest-magnitude.ensures.exact in
    rw (same, ← nearest_is) (minus_stored w64 _ c.nearest-magnitude.ensures.small)
