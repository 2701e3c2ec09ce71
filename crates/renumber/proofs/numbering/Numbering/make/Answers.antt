use Rattle.std.proofs.Common.{◌∙◌, ap, arith, length}
use Rattle.renumber.specs.Uses.{cells_of_pages}
use Rattle.renumber.proofs.InsertedCells.{insert_all-first_uses}
use Rattle.renumber.proofs.numbering.Numbering.make.Goals as goal

pub invariant_of-result : goal.invariant_of-result
invariant_of-result c =
    let uses = c.in_ok-cells.ensures ∙ insert_all-first_uses (cells_of_pages c.args.pages.now) in
    omega (arith, ap length uses, c.requires)

pub returns : goal.returns
returns c = c.in_ok-cells.ensures ∙ insert_all-first_uses (cells_of_pages c.args.pages.now)
