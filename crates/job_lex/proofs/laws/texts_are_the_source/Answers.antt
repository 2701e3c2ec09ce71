use Rattle.job_lex.proofs.Neighbours.{texts-rest}
use Rattle.job_lex.proofs.laws.texts_are_the_source.Goals as goal

pub returns : goal.returns
returns c = λ bytes toks are. texts-rest _ _ _ are
