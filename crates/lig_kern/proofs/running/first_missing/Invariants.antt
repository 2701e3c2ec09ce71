use Rattle.std.proofs.Common.{◌≡◌, ℕ, ◌<◌, get_or, true}
use Rattle.tfm_read.specs.Ranges.{exists_at}
use Rattle.lig_kern.proofs.running.first_missing.Given as goal

abbrev pub invariant-loop-index : goal.invariant-loop-index
invariant-loop-index l = (k : ℕ) → k < l.index → exists_at l.tfm.chars (get_or l.codes k 0) ≡ true
