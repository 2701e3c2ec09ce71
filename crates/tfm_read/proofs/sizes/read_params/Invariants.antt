use Rattle.tfm_read.proofs.Loops.{ParamsSoFar}
use Rattle.tfm_read.proofs.sizes.read_params.Given as goal

abbrev pub invariant-loop-i : goal.invariant-loop-i
invariant-loop-i l = ParamsSoFar l.bytes l.place l.params l.i
