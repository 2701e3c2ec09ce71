use Rattle.std.proofs.Common.{◌≡◌, ℕ, ◌<◌, max, length, get_or}
use Rattle.liang_hyph.proofs.merge.greater.Given as goal

abbrev pub invariant-loop-k : goal.invariant-loop-k
invariant-loop-k l =
    (length l.both.items ≡ l.k) × ((i : ℕ) → i < l.k → get_or l.both.items i 0 ≡ max (get_or l.first i 0) (get_or l.second i 0))
