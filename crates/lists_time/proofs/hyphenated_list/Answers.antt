-- Each item of a list of the stock has its font in it.
use Rattle.hlist_hyph.proofs.OwnLemmas.{items-below}
use Rattle.lists_time.proofs.hyphenated_list.Goals as goal

pub hyphenated-requires-clause-fonts : goal.hyphenated-requires-clause-fonts
hyphenated-requires-clause-fonts c = items-below c.args.stock.now c.args.list.now.items c.requires.own
