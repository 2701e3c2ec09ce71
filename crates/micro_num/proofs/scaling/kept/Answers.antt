use Rattle.std.proofs.Common.{arith}
use Rattle.micro_num.proofs.Halvings.{kept_bound}
use Rattle.micro_num.proofs.scaling.kept.Goals as goal

pub returns-clause-below : goal.returns-clause-below
returns-clause-below c =
    let bound = kept_bound c.args.z c.halved_times-k.result c.halved_times-k.ensures.few c.halved_times-k.ensures.enough in
    omega (arith, bound)
