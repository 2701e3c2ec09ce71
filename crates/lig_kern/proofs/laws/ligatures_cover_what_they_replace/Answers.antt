-- What a ligature covers.
use Rattle.lig_kern.proofs.UnionLemmas.{ligature-covers}
use Rattle.lig_kern.proofs.laws.ligatures_cover_what_they_replace.Goals as goal

pub returns : goal.returns
returns c = λ tfm codes left right acted before current follower rest r op ligature code.
    ligature-covers tfm codes left right acted before current follower rest r op ligature code
