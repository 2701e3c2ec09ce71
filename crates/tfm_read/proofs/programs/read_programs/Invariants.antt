use Rattle.tfm_read.proofs.Loops.{LigsSoFar}
use Rattle.tfm_read.proofs.programs.read_programs.Given as goal

abbrev pub invariant-loop-i : goal.invariant-loop-i
invariant-loop-i l = LigsSoFar l.bytes l.chars l.right l.kerns l.count l.place l.ligs l.i
