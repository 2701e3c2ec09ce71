use Rattle.tfm_read.proofs.CharWords.{IndicesSoFar}
use Rattle.tfm_read.proofs.characters.read_indices.Given as goal

abbrev pub invariant-loop-i : goal.invariant-loop-i
invariant-loop-i l = IndicesSoFar l.bytes l.lengths l.place l.indices l.i
