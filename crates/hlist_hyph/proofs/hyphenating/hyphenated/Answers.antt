-- The bounds, fonts, codes and kerns of the hyphenated form.
use Rattle.hlist_hyph.specs.Hyphenated.{places_in}
use Rattle.hlist_hyph.proofs.BoundLemmas.{hyphenated-bounds}
use Rattle.hlist_hyph.proofs.OwnLemmas.{hyphenated-own, hyphenated-fonts}
use Rattle.hlist_hyph.proofs.hyphenating.hyphenated.Goals as goal

pub returns-clause-bounds : goal.returns-clause-bounds
returns-clause-bounds c =
    rw (rw c.as_slice-items.ensures at c.in_ok-items.ensures)
    (hyphenated-bounds c.args.tables.now c.args.stock.now (places_in c.args.patterns.now c.args.params.now) c.args.list.now c.requires.small)

pub returns-clause-own : goal.returns-clause-own
returns-clause-own c own =
    rw (rw c.as_slice-items.ensures at c.in_ok-items.ensures)
    (hyphenated-own c.args.tables.now c.args.stock.now (places_in c.args.patterns.now c.args.params.now) c.args.list.now.items own)

pub returns-clause-fonts : goal.returns-clause-fonts
returns-clause-fonts c test passes =
    rw (rw c.as_slice-items.ensures at c.in_ok-items.ensures)
    (hyphenated-fonts test c.args.tables.now c.args.stock.now (places_in c.args.patterns.now c.args.params.now) c.args.list.now.items passes)
