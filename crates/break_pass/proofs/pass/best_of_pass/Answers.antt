use Rattle.break_pass.proofs.PassLaws.{pass_ends}
use Rattle.break_pass.proofs.pass.best_of_pass.Goals as goal

pub best-requires : goal.best-requires
best-requires c = pass_ends c.in_ok-pass.pass.rule.now c.in_ok-pass.pass.threshold c.in_ok-pass.pass.last
