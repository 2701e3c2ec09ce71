use Rattle.break_pass.proofs.PassLaws.{pass_blind}
use Rattle.break_pass.proofs.laws.demerits_see_little_of_the_line_before.Goals as goal

pub returns : goal.returns
returns c = pass_blind
