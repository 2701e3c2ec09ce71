-- How long the names of instances are.
--     step_suffix-short    what is put behind a font's name has at most eleven bytes
--     definable-short      an instance of a font with a row and a name of at most 244 bytes can be defined
use Rattle.std.proofs.Common.{ℕ, ◌<◌, ◌≤◌, ◌^◌, arith, Bool, true, false, cond, int_lt, List, [], ◌∷◌, length, length-append, ℤ, pos, unsigned_abs}
use Rattle.std.specs.Fmt.{decimal}
use Rattle.std.specs.Ordering.{int_eq}
use Rattle.std.proofs.lemmas.Fmt.{length-decimal-le}
use Rattle.instance_core.specs.declared.cell.Cell.{Cell}
use Rattle.dvi_write.specs.declared.row.FontRow.{FontRow}
use Rattle.dvi_write.specs.Document.{row_of, instance_name, step_suffix}
use Rattle.dvi_write.specs.Writable.{IsDefinable}

pub step_suffix-short : (step : ℤ) → unsigned_abs step < 10 ^ 10 → length (step_suffix step) ≤ 11
step_suffix-short step small = by_tests (int_eq step (pos 0)) (int_lt step (pos 0)) (unsigned_abs step) small
  where
    by_tests : (none narrow : Bool) (size : ℕ) → size < 10 ^ 10
        → length (cond none [] (cond narrow 45 43 ∷ decimal size)) ≤ 11
    by_tests true narrow size fits = omega arith
    by_tests false narrow size fits =
        let digits = length-decimal-le 10 size (omega arith) fits (omega (arith, fits)) in omega (arith, digits)

pub definable-short : (rows : List FontRow) (cell : Cell) → cell.font < length rows → unsigned_abs cell.step < 10 ^ 10
    → length (row_of rows cell).name ≤ 244 → IsDefinable rows cell
unfolding instance_name
definable-short rows cell has_row small short =
    record {
      has_row = has_row;
      name = omega (arith, length-append (row_of rows cell).name (step_suffix cell.step), step_suffix-short cell.step small, short);
    }
