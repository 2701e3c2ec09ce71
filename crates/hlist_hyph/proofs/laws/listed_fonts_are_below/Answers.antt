-- Each item of the list has its font in the stock.
use Rattle.hlist_hyph.proofs.OwnLemmas.{items-below}
use Rattle.hlist_hyph.proofs.laws.listed_fonts_are_below.Goals as goal

pub returns : goal.returns
returns c = λ stock list own. items-below stock list.items own
