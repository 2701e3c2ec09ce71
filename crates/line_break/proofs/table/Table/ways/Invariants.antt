use Rattle.std.proofs.Common.{◌≡◌}
use Rattle.line_break.specs.Tables.{pass_of}
use Rattle.line_break.specs.Ways.{ways}
use Rattle.line_break.proofs.table.Table.ways.Given as goal

abbrev pub invariant-loop-place : goal.invariant-loop-place
invariant-loop-place l = l.all ≡ ways (pass_of l.self) l.place
