use Rattle.tfm_read.proofs.Loops.{TableSoFar}
use Rattle.tfm_read.proofs.sizes.read_table.Given as goal

abbrev pub invariant-loop-i : goal.invariant-loop-i
invariant-loop-i l = TableSoFar l.bytes l.place l.table l.i
