use Rattle.std.proofs.Common.{◌≡◌, ℕ, ◌<◌, length, get_or}
use Rattle.micro_num.specs.Plain.{plain_lower}
use Rattle.micro_num.proofs.tables.plain_letters.Given as goal

abbrev pub invariant-loop-code : goal.invariant-loop-code
invariant-loop-code l = (length l.letters ≡ 256) × ((k : ℕ) → k < l.code → get_or l.letters k 0 ≡ plain_lower k)
