-- No list of a discretionary holds a fixed item.
use Rattle.hlist_hyph.specs.Hyphenated.{hyphenated_items}
use Rattle.hlist_hyph.proofs.DiscLemmas.{from-discs, discs-fixed}
use Rattle.hlist_hyph.proofs.laws.fixed_items_stay.Goals as goal

pub returns : goal.returns
returns c = λ tables stock places items.
    discs-fixed items (hyphenated_items tables stock places items) (from-discs tables stock places 0 items)
