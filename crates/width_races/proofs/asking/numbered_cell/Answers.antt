use Rattle.std.proofs.lemmas.Option.{get_or_from_slice_get}
use Rattle.instance_core.specs.Cells.{cells_of}
use Rattle.width_races.proofs.asking.numbered_cell.Goals as goal

pub returns : goal.returns
returns c = (c.args.number, c.requires, get_or_from_slice_get (cells_of c.args.fonts.now) c.args.number c.cell_of.result c.cell_of.result c.cell_of.ensures.exact)
