use Rattle.tfm_read.proofs.Loops.{HalfwordsSoFar}
use Rattle.tfm_read.proofs.header.read_halfwords.Given as goal

abbrev pub invariant-loop-n : goal.invariant-loop-n
invariant-loop-n l = HalfwordsSoFar l.bytes l.halfwords l.n
