use Rattle.std.proofs.Common.{◌≡◌}
use Rattle.break_sweep.proofs.PutLines.{AreLower}
use Rattle.break_sweep.proofs.putting.put_line.Given as goal

abbrev pub invariant-loop-i : goal.invariant-loop-i
invariant-loop-i l = (l.best.items ≡ l.fn.best.items) × AreLower l.ended l.line l.fn.best.items l.i
