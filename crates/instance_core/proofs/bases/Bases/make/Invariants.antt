use Rattle.std.proofs.Common.{◌≡◌, ◌<◌, ℕ, length, take, get_or}
use Rattle.instance_core.specs.Cells.{cells_of}
use Rattle.instance_core.proofs.bases.Bases.make.Given as goal

abbrev pub invariant-loop-font : goal.invariant-loop-font
invariant-loop-font l = record {
  count : length l.firsts.items ≡ l.font-index;
  first : (k : ℕ) → k < l.font-index → get_or l.firsts.items k 0 ≡ length (cells_of (take k l.font-items));
  all : l.cells ≡ length (cells_of (take l.font-index l.font-items));
}
