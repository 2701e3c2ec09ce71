use Rattle.std.proofs.Common.{refl}
use Rattle.micro_words.specs.Draws.{next_state, drawn}
use Rattle.micro_words.specs.Prose.{letters, word}
use Rattle.micro_words.specs.Worked.{draws}
use Rattle.micro_words.proofs.worked.document_1_begins_so.Goals as goal

pub returns : goal.returns
unfolding draws next_state drawn letters word
returns c = record { draws = refl; words = refl; first = refl }
