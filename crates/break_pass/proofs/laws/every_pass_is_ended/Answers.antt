use Rattle.break_pass.proofs.PassLaws.{pass_ends}
use Rattle.break_pass.proofs.laws.every_pass_is_ended.Goals as goal

pub returns : goal.returns
returns c = pass_ends
