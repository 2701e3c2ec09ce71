use Rattle.std.proofs.Common.{arith}
use Rattle.micro_num.proofs.Expansions.{nearest_grows}
use Rattle.micro_num.proofs.rounding.thousandths_up.Goals as goal

pub returns-then-k-clause-within : goal.returns-then-k-clause-within
returns-then-k-clause-within c = λ few. let grows = nearest_grows c.args.n c.args.k 1000 few in omega (arith, grows)

pub returns-else-k-clause-within : goal.returns-else-k-clause-within
returns-else-k-clause-within c = λ few. let grows = nearest_grows c.args.n c.args.k 1000 few in omega (arith, grows)
