use Rattle.std.proofs.Common.{◌≡◌, ◌-◌, length, drop}
use Rattle.line_break.specs.Listing.{first_of_ended}
use Rattle.line_break.specs.Tables.{pass_of}
use Rattle.line_break.proofs.table.Table.first.Given as goal

abbrev pub invariant-loop-back : goal.invariant-loop-back
invariant-loop-back l = l.found ≡ first_of_ended (pass_of l.self) (drop (length l.ways - l.back) l.ways)
