use Rattle.std.proofs.Common.{◌≡◌, filter, map, take}
use Rattle.line_break.specs.Tables.{pass_of}
use Rattle.line_break.specs.Ways.{records, extended}
use Rattle.line_break.proofs.table.Table.recorded_lines.Given as goal

abbrev pub invariant-loop-w : goal.invariant-loop-w
invariant-loop-w l =
    l.lines
    ≡ map (λ w. extended (pass_of l.self) l.to ((pass_of l.self).demerits w.last l.to) w) (filter (records (pass_of l.self) l.to) (take l.w-index l.ways))
