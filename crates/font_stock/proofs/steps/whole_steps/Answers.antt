use Rattle.std.proofs.Math.Nat.{mul-mod_left}
use Rattle.font_stock.proofs.WholeSteps.{share_within, steps_within}
use Rattle.font_stock.proofs.steps.whole_steps.Goals as goal

pub returns-clause-within : goal.returns-clause-within
returns-clause-within c =
    steps_within _ c.args.limit c.args.step
    (share_within c.args.ratio c.args.factor c.args.limit c.requires.ratio c.requires.factor) c.requires.whole c.requires.some

pub returns-clause-multiple : goal.returns-clause-multiple
returns-clause-multiple c = mul-mod_left _ c.args.step
