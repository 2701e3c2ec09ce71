use Rattle.std.proofs.Common.{w32, to_z, of_z}
use Rattle.paragraph_breaks.proofs.PassSteps.{last_some}
use Rattle.paragraph_breaks.proofs.breaking.last_breaks.Goals as goal

pub unwrap-requires : goal.unwrap-requires
unwrap-requires c = last_some c.args.rule.now (to_z w32 (of_z w32 c.args.tolerance)) 3 c.in_ok-breaks.breaks c.in_ok-breaks.ensures
