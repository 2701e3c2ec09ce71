-- The pages that are timed can be written, and use seven instances at most.
use Rattle.std.proofs.Common.{◌≡◌, ◌≤◌, List, length, true, All, refl, arith, ◌<◌, ℤ, pos, negsuc, unsigned_abs}
use Rattle.std.proofs.lemmas.List.Elements.{All-from_recursion}
use Rattle.instance_core.specs.declared.page.Page.{Page}
use Rattle.instance_core.specs.Cells.{has_cell, cell_at}
use Rattle.renumber.specs.Uses.{cells_of_pages, first_uses}
use Rattle.renumber.proofs.UsedCells.{all_of_pages}
use Rattle.renumber.proofs.FewUses.{first_uses-within}
use Rattle.dvi_write.specs.Document.{row_of}
use Rattle.dvi_write.specs.Writable.{IsWritable}
use Rattle.dvi_write.proofs.Names.{definable-short}
use Rattle.page_bench.specs.Timed.{instances, rows, IsTimed, IsTimedCell}

pub timed_writable : (pages : List Page) → All IsTimed pages → All (IsWritable rows) pages
timed_writable pages timed k page_d k_inside l line_d l_inside =
    record {
      baseline = (timed k page_d k_inside l line_d l_inside).baseline;
      glyphs = λ g glyph_d g_inside. ((timed k page_d k_inside l line_d l_inside).glyphs g glyph_d g_inside).writable;
    }

pub timed_few : (pages : List Page) → All IsTimed pages → length (first_uses (cells_of_pages pages)) ≤ 7
timed_few pages timed =
    first_uses-within instances (cells_of_pages pages) (
    all_of_pages (λ c. has_cell instances c ≡ true) pages (λ k page_d k_inside l line_d l_inside g glyph_d g_inside.
    ((timed k page_d k_inside l line_d l_inside).glyphs g glyph_d g_inside).listed)
    )

timed_cell : (step : ℤ) → has_cell instances (cell_at 0 step) ≡ true → unsigned_abs step < 100 → IsTimedCell (cell_at 0 step)
unfolding row_of
timed_cell step listed small = record {
  listed = listed;
  definable = definable-short rows (cell_at 0 step) (omega arith) (omega (arith, small)) (omega arith);
}

pub instances_timed : All IsTimedCell instances
instances_timed =
    All-from_recursion IsTimedCell instances (
      timed_cell (negsuc 19) refl (omega arith),
      (
        timed_cell (negsuc 12) refl (omega arith),
        (
          timed_cell (negsuc 5) refl (omega arith),
          (
            timed_cell (pos 0) refl (omega arith),
            (
              timed_cell (pos 6) refl (omega arith),
              (timed_cell (pos 13) refl (omega arith), (timed_cell (pos 20) refl (omega arith), tt)),
            ),
          ),
        ),
      ),
    )
