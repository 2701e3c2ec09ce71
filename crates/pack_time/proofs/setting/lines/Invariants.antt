use Rattle.std.proofs.Common.{All}
use Rattle.pack_time.specs.Timed.{IsTimed}
use Rattle.pack_time.proofs.setting.lines.Given as goal

abbrev pub invariant-loop-line : goal.invariant-loop-line
invariant-loop-line l = All (IsTimed l.stock) l.lines.items
