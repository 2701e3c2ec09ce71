-- Without patterns no word has a place.
use Rattle.std.proofs.Common.{ℕ, List}
use Rattle.hlist_hyph.specs.Hyphenated.{places_in}
use Rattle.hlist_hyph.proofs.SilentWords.{from-silent}
use Rattle.hlist_hyph.proofs.unchanged.is_changed.Goals as goal

pub returns-then-is_empty : goal.returns-then-is_empty
returns-then-is_empty c none =
    from-silent c.args.tables.now c.args.stock.now (places_in c.args.patterns.now c.args.params.now)
    (λ (word : List ℕ). c.is_empty.ensures c.if-is_empty.true word c.args.params.now.lefthyphenmin c.args.params.now.righthyphenmin) 0 c.args.list.now.items
