-- At the end all items stay.
use Rattle.std.proofs.Common.{arith}
use Rattle.hlist_hyph.specs.Hyphenated.{places_in}
use Rattle.hlist_hyph.proofs.SilentWords.{end-same}
use Rattle.hlist_hyph.proofs.unchanged.has_places.Goals as goal

pub returns : goal.returns
returns c none =
    c.loop-at.invariant.so_far
    (end-same c.args.tables.now c.args.stock.now (places_in c.args.patterns.now c.args.params.now) c.args.items.now c.loop-at.at (omega arith))
