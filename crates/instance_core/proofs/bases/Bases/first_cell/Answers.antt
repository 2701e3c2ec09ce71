use Rattle.std.proofs.Common.{◌≡◌, ◌<◌, arith, take, length, get_or, refl}
use Rattle.instance_core.specs.Cells.{cells_of}
use Rattle.instance_core.proofs.CellNumbers.{length-cells_of_few}
use Rattle.instance_core.proofs.bases.Bases.first_cell.Goals as goal

pub returns-clause-few : goal.returns-clause-few
returns-clause-few c =
    let inside : c.args.font < length c.self.inside.fonts = rw (← c.self.view_is) at c.requires in
    let first : get_or c.self.inside.firsts c.args.font 0 ≡ length (cells_of (take c.args.font c.self.inside.fonts)) = c.self.invariant.first c.args.font inside in
    let same : get_or c.as_slice.result.now c.args.font 0 ≡ get_or c.self.inside.firsts c.args.font 0 = rw c.as_slice.ensures refl in
    omega (arith, first, same, length-cells_of_few c.self.inside.fonts c.args.font c.self.invariant.bases.each c.self.invariant.bases.few)
