use Rattle.std.proofs.Common.{arith, ◌≡◌, ◌<◌, ◌^◌, FitsSigned, w64}
use Rattle.std.specs.Prelude.{unsigned_abs}
use Rattle.std.proofs.lemmas.Int.{to_z-of_z, to_z_pos}
use Rattle.micro_num.proofs.Signs.{minus_stored, minus_abs}
use Rattle.micro_num.proofs.rounding.thousandths.Goals as goal

pub returns-then-n-k-clause-within : goal.returns-then-n-k-clause-within
returns-then-n-k-clause-within c = λ few.
    let fits_n : FitsSigned w64 c.args.n = c.ranges.n in
    let fits_k : FitsSigned w64 c.args.k = c.ranges.k in
    let n_abs : c.unsigned_abs.result ≡ unsigned_abs c.args.n = simp to_z-of_z at c.unsigned_abs.ensures.value in
    let k_abs : c.unsigned_abs-2.result ≡ unsigned_abs c.args.k = simp to_z-of_z at c.unsigned_abs-2.ensures.value in
    let small : c.thousandths_up-magnitude.result < 2 ^ 63 = omega arith in
    let below = c.thousandths_up-magnitude.ensures.within (omega arith) in
    rw (to_z_pos w64 c.thousandths_up-magnitude.result small) (omega (arith, below))

pub returns-else-n-k-clause-within : goal.returns-else-n-k-clause-within
returns-else-n-k-clause-within c = λ few.
    let fits_n : FitsSigned w64 c.args.n = c.ranges.n in
    let fits_k : FitsSigned w64 c.args.k = c.ranges.k in
    let n_abs : c.unsigned_abs.result ≡ unsigned_abs c.args.n = simp to_z-of_z at c.unsigned_abs.ensures.value in
    let k_abs : c.unsigned_abs-2.result ≡ unsigned_abs c.args.k = simp to_z-of_z at c.unsigned_abs-2.ensures.value in
    let small : c.thousandths_up-magnitude.result < 2 ^ 63 = omega arith in
    let below = c.thousandths_up-magnitude.ensures.within (omega arith) in
    rw (minus_stored w64 c.thousandths_up-magnitude.result small, minus_abs) (omega (arith, below))
