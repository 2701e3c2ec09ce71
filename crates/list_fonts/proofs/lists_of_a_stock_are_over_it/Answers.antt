use Rattle.list_fonts.proofs.OverLaws.{list_over}
use Rattle.list_fonts.proofs.lists_of_a_stock_are_over_it.Goals as goal

pub returns : goal.returns
returns c = list_over
