use Rattle.std.proofs.Common.{◌≡◌, ◌∷◌, take}
use Rattle.line_break.proofs.table.Table.extended.Given as goal

abbrev pub invariant-loop-node : goal.invariant-loop-node
invariant-loop-node l = l.earlier ≡ l.w.last ∷ take l.node-index l.w.earlier
