-- What holds of the list of a paragraph.
use Rattle.hlist_build.proofs.StockLemmas.{answer-good, only-small, only-of-stock}
use Rattle.hlist_build.proofs.paragraph.build.Goals as goal

pub returns-clause-small : goal.returns-clause-small
returns-clause-small c =
    only-small c.args.stock.now c.list_of.result
    (answer-good c.args.par.now c.args.tables.now c.args.stock.now c.list_of.result c.list_of.ensures)

pub returns-clause-of_stock : goal.returns-clause-of_stock
returns-clause-of_stock c =
    only-of-stock c.args.stock.now c.list_of.result
    (answer-good c.args.par.now c.args.tables.now c.args.stock.now c.list_of.result c.list_of.ensures)
