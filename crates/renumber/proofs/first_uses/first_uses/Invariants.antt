use Rattle.std.proofs.Common.{◌≡◌, [], drop}
use Rattle.indexmap.specs.IndexSet.{insert_all}
use Rattle.instance_core.specs.Cells.{same_cell}
use Rattle.renumber.specs.Uses.{cells_of_pages}
use Rattle.renumber.proofs.first_uses.first_uses.Given as goal

abbrev pub invariant-loop-page : goal.invariant-loop-page
invariant-loop-page l =
    insert_all same_cell l.uses (cells_of_pages (drop l.page-index l.pages)) ≡ insert_all same_cell [] (cells_of_pages l.pages)
