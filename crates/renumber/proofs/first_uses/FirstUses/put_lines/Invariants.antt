use Rattle.std.proofs.Common.{◌≡◌, drop}
use Rattle.indexmap.specs.IndexSet.{insert_all}
use Rattle.instance_core.specs.Cells.{same_cell}
use Rattle.renumber.specs.Uses.{cells_of_lines}
use Rattle.renumber.proofs.first_uses.FirstUses.put_lines.Given as goal

abbrev pub invariant-loop-placed : goal.invariant-loop-placed
invariant-loop-placed l =
    insert_all same_cell l.self (cells_of_lines (drop l.placed-index l.lines)) ≡ insert_all same_cell l.initial.self (cells_of_lines l.lines)
