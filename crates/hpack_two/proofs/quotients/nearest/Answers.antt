use Rattle.std.proofs.Common.{arith}
use Rattle.hpack_two.proofs.RoundedSizes.{nearest-small}
use Rattle.hpack_two.proofs.quotients.nearest.Goals as goal

pub returns-clause-small : goal.returns-clause-small
returns-clause-small c = let small = nearest-small c.args.n c.args.d in omega (arith, small)
