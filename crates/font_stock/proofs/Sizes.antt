-- Thousandths of a design size are at least 1 sp.
use Rattle.std.proofs.Common.{ℕ, ◌*◌, ◌/◌, ◌≤◌, arith, ℤ, pos, negsuc, ◌*ℤ◌, ◌≤ℤ◌}
use Rattle.std.proofs.lemmas.Int.{ints}
use Rattle.std.proofs.lemmas.Nat.{mul-le}
use Rattle.micro_num.specs.Rounding.{truncated}

pub thousandths_of_a_size : (design : ℤ) (by : ℕ) → pos 65536 ≤ℤ design → 1 ≤ by → pos 1 ≤ℤ truncated (design *ℤ pos by) (pos 1000)
thousandths_of_a_size (negsuc d) by large some = absurd (omega (arith, ints))
thousandths_of_a_size (pos d) by large some =
    let product : 65536 * 1 ≤ d * by = mul-le 65536 1 d by (omega (arith, ints)) some in
    let quotient : 1 ≤ d * by / 1000 = omega arith in
    omega (arith, ints)
