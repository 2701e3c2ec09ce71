use Rattle.std.proofs.Common.{arith}
use Rattle.instance_core.proofs.CellNumbers.{length-cells_from}
use Rattle.instance_core.proofs.bases.Bases.cell_count.Goals as goal

pub returns-clause-few : goal.returns-clause-few
returns-clause-few c =
    omega (arith, c.self.invariant.all, length-cells_from c.self.inside.fonts 0 c.self.invariant.bases.each, c.self.invariant.bases.few)
