use Rattle.break_pass.proofs.PassLaws.{last_pass_reaches}
use Rattle.break_pass.proofs.laws.the_last_pass_reaches_the_end.Goals as goal

pub returns : goal.returns
returns c = last_pass_reaches
