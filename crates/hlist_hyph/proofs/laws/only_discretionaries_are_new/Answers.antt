-- The new discretionaries stand for what was there.
use Rattle.hlist_hyph.proofs.DiscLemmas.{from-discs}
use Rattle.hlist_hyph.proofs.laws.only_discretionaries_are_new.Goals as goal

pub returns : goal.returns
returns c = λ tables stock places items. from-discs tables stock places 0 items
