use Rattle.std.proofs.Common.{◌≡◌, ◌<◌, ◌^◌, ◌++◌, take, filter, length}
use Rattle.break_sweep.specs.Standing.{is_made}
use Rattle.break_sweep.proofs.making.make_nodes.Given as goal

abbrev pub invariant-loop-line : goal.invariant-loop-line
invariant-loop-line l = (l.nodes.items ≡ l.fn.nodes.items ++ filter (is_made l.slack l.best) (take l.line-index l.best)) × (length l.nodes.items < 2 ^ 32)
