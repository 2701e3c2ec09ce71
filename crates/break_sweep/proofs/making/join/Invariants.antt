use Rattle.std.proofs.Common.{◌≡◌, ◌<◌, drop, length}
use Rattle.std.specs.List.{fold, All}
use Rattle.line_break.specs.Pass.{Pass}
use Rattle.line_break.specs.Sweep.{put}
use Rattle.break_sweep.specs.Made.{listed, ways_of}
use Rattle.break_sweep.specs.Joining.{IsToJoin}
use Rattle.break_sweep.proofs.making.join.Given as goal

abbrev pub invariant-loop-index : goal.invariant-loop-index
invariant-loop-index l =
    let ws = ways_of l.nodes in
    All (λ i. i < length l.nodes) l.active.items × IsToJoin l.ended (listed ws l.active.items) (drop l.index ws)
    × ((q : Pass) → q.open_ended ≡ l.ended
    → fold (put q) (listed ws l.active.items) (drop l.index ws) ≡ fold (put q) (listed ws l.fn.active.items) (drop l.first ws))
