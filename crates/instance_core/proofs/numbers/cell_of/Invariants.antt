use Rattle.std.proofs.Common.{◌≡◌, ◌<◌, length, drop}
use Rattle.std.specs.List.{slice_get}
use Rattle.instance_core.specs.Cells.{cells_of, cells_from}
use Rattle.instance_core.proofs.numbers.cell_of.Given as goal

abbrev pub invariant-loop-font : goal.invariant-loop-font
invariant-loop-font l = record {
  inside : l.place < length (cells_from l.font (drop l.font l.base-items));
  same : slice_get (cells_of l.base-items) l.number ≡ slice_get (cells_from l.font (drop l.font l.base-items)) l.place;
}
