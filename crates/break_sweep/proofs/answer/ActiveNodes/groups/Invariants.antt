use Rattle.std.proofs.Common.{◌≡◌, map, take}
use Rattle.line_break.specs.declared.node.Way.{Way}
use Rattle.break_sweep.specs.Made.{listed, ways_of}
use Rattle.break_sweep.proofs.answer.ActiveNodes.groups.Given as goal

abbrev pub invariant-loop-at : goal.invariant-loop-at
invariant-loop-at l =
    l.groups ≡ map (λ (way : Way). way.last.group) (take l.at (listed (ways_of l.self-inside.nodes.items) l.self-inside.active.items))
