use Rattle.break_sweep.specs.Made.{AreActive}
use Rattle.break_sweep.proofs.answer.ActiveNodes.sweep.Given as goal

abbrev pub invariant-loop-place : goal.invariant-loop-place
invariant-loop-place g l = AreActive (g.L.Lines.pass l.lines) l.place l.arrays.nodes.items l.arrays.active.items
