use Rattle.std.proofs.Common.{◌≡◌, ◌<◌, ◌++◌, true, map, filter, drop, length}
use Rattle.std.specs.List.{fold, All}
use Rattle.line_break.specs.Sweep.{tried, put, kept}
use Rattle.break_sweep.specs.Made.{listed, ways_of, way_of, IsFound}
use Rattle.break_sweep.proofs.Tries.{lives_on}
use Rattle.break_sweep.proofs.trying.try_nodes.Given as goal

abbrev pub invariant-loop-i : goal.invariant-loop-i
invariant-loop-i g l =
    let q = g.L.Lines.pass l.lines in
    let to = l.stop.place in
    let ws = ways_of l.nodes in
    let all = listed ws l.active in (
    fold (put q) (map (way_of ws) l.best.items) (tried q to l.quiet (drop l.i all)) ≡ kept q (tried q to true all)
    ) × (listed ws l.living.items ++ filter (lives_on q to) (drop l.i all) ≡ filter (lives_on q to) all)
    × All (λ i. i < length l.nodes) l.living.items
    × All (IsFound to (length l.nodes)) l.best.items
