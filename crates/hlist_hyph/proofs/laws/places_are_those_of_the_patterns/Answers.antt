-- What is read off the table are the places that the patterns give.
use Rattle.hlist_hyph.specs.Hyphenated.{places_in, places_by}
use Rattle.hlist_hyph.proofs.SameLemmas.{from-same}
use Rattle.hlist_hyph.proofs.laws.places_are_those_of_the_patterns.Goals as goal

pub returns : goal.returns
returns c = λ tables stock table params patterns exceptions items made.
    from-same tables stock (places_in table params) (places_by patterns exceptions params) 0 items
    (λ word. made word params.lefthyphenmin params.righthyphenmin)
