use Rattle.job_lex.proofs.Neighbours.{gaps-apart}
use Rattle.job_lex.proofs.laws.gaps_stand_apart.Goals as goal

pub returns : goal.returns
returns c = λ bytes toks are. gaps-apart _ _ _ _ are
