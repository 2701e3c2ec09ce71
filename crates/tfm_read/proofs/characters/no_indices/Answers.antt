use Rattle.std.proofs.lemmas.List.{get_or-replicate}
use Rattle.tfm_read.specs.Characters.{no_indices}
use Rattle.tfm_read.proofs.characters.no_indices.Goals as goal

pub returns-clause-all : goal.returns-clause-all
returns-clause-all c = λ k d lt. get_or-replicate 256 k no_indices d lt
