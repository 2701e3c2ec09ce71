use Rattle.std.proofs.Common.{◌≡◌, ◌&&◌, filter, take}
use Rattle.line_break.specs.Tables.{pass_of}
use Rattle.line_break.specs.Ways.{stands, lives}
use Rattle.line_break.proofs.table.Table.open_ways.Given as goal

abbrev pub invariant-loop-w : goal.invariant-loop-w
invariant-loop-w l =
    l.found ≡ filter (λ w. stands (pass_of l.self) l.ways w && lives (pass_of l.self) l.to w.last) (take l.w-index l.ways)
