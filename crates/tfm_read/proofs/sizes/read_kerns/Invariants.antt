use Rattle.tfm_read.proofs.Loops.{KernsSoFar}
use Rattle.tfm_read.proofs.sizes.read_kerns.Given as goal

abbrev pub invariant-loop-i : goal.invariant-loop-i
invariant-loop-i l = KernsSoFar l.bytes l.place l.kerns l.i
