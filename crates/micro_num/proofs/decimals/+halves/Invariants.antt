use Rattle.std.proofs.Common.{length}
use Rattle.micro_num.proofs.decimals.+halves.Given as goal

abbrev pub decreases-halves : goal.decreases-halves
decreases-halves l = length l.digits.now
