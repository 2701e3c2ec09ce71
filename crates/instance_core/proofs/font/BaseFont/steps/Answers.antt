use Rattle.std.proofs.Common.{sym}
use Rattle.instance_core.proofs.Steps.{length-steps_of, count_is}
use Rattle.instance_core.proofs.font.BaseFont.steps.Goals as goal

pub returns-clause-exact : goal.returns-clause-exact
returns-clause-exact c = sym (length-steps_of c.args.self.now)

pub returns-clause-few : goal.returns-clause-few
returns-clause-few c = count_is c.args.self.now c.requires
