use Rattle.std.proofs.Common.{◌≡◌, ℕ, ◌<◌, length, get_or}
use Rattle.micro_num.specs.Plain.{plain_factor}
use Rattle.micro_num.proofs.tables.plain_factors.Given as goal

abbrev pub invariant-loop-code : goal.invariant-loop-code
invariant-loop-code l = (length l.factors ≡ 256) × ((k : ℕ) → k < l.code → get_or l.factors k 0 ≡ plain_factor k)
