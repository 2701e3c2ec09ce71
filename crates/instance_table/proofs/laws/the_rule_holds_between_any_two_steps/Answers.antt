use Rattle.instance_table.specs.Steps.{start}
use Rattle.instance_table.proofs.AllSteps.{starts_ruled, steps_ruled}
use Rattle.instance_table.proofs.laws.the_rule_holds_between_any_two_steps.Goals as goal

pub returns : goal.returns
returns c = λ bases draws t few steps. steps_ruled bases draws (start bases draws) t steps (starts_ruled bases draws few)
