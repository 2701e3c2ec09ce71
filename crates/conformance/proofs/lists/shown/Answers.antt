-- Each item of a list of the stock has its font in it, and the hyphenated list has the same fonts.
use Rattle.std.proofs.Common.{rules}
use Rattle.hlist_hyph.proofs.OwnLemmas.{items-below}
use Rattle.list_fonts.proofs.AlikeLaws.{same_fonts_share}
use Rattle.conformance.proofs.lists.shown.Goals as goal

pub hyphenated-requires-clause-fonts : goal.hyphenated-requires-clause-fonts
hyphenated-requires-clause-fonts c = search (rules, items-below)

pub told-requires-in-Ok-clause-share : goal.told-requires-in-Ok-clause-share
told-requires-in-Ok-clause-share c =
    same_fonts_share c.args.par.now.params c.args.stock.now c.args.list.now.items c.in-Ok.made.items c.in-Ok.ensures.fonts c.requires.share
