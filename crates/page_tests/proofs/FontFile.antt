-- The letters of a page of 65,536 fonts can be written.
use Rattle.std.proofs.Common.{ℕ, ◌<◌, ◌∷◌, [], arith, pos}
use Rattle.instance_core.specs.Cells.{cell_at}
use Rattle.dvi_write.specs.Document.{row_of}
use Rattle.dvi_write.specs.Worked.{tiny10}
use Rattle.dvi_write.specs.Writable.{IsDefinable}
use Rattle.dvi_write.proofs.Names.{definable-short}

pub definable : (step : ℕ) → step < 65536 → IsDefinable (tiny10 ∷ []) (cell_at 0 (pos step))
unfolding row_of
definable step small = definable-short (tiny10 ∷ []) (cell_at 0 (pos step)) (omega arith) (omega (arith, small)) (omega arith)
