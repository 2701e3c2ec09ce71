use Rattle.std.proofs.Common.{◌≡◌, filter, map, take, pos}
use Rattle.line_break.specs.Tables.{pass_of}
use Rattle.line_break.specs.Ways.{is_last, extended}
use Rattle.line_break.proofs.table.Table.rescued_lines.Given as goal

abbrev pub invariant-loop-w : goal.invariant-loop-w
invariant-loop-w l =
    l.lines ≡ map (extended (pass_of l.self) l.to (pos 0)) (filter (is_last (pass_of l.self) l.ways) (take l.w-index l.ways))
