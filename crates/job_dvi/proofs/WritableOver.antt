-- Pages over a stock can be written with the rows of its fonts.
--     length-rows       there is a row for each font
--     names-short       their names are short
--     no-rows, rows-next   rows, one after another
--     writable-over     the pages can be written
use Rattle.std.proofs.Common.{◌≡◌, ℕ, zero, suc, ◌+◌, ◌<◌, ◌≤◌, refl, ap, ◌∙◌, arith, Bool, true, false, cond, List, [], ◌∷◌, ◌++◌, length, length-append, take, Some, ℤ, pos}
use Rattle.std.specs.Prelude.{All, int_lt, slice_get, slice_index_or, unsigned_abs}
use Rattle.std.specs.Fmt.{decimal}
use Rattle.std.specs.Ordering.{int_eq}
use Rattle.std.proofs.lemmas.Fmt.{length-decimal-le}
use Rattle.std.proofs.lemmas.List.Elements.{All-cons, All-head, All-nil, All-tail}
use Rattle.font_stock.specs.declared.font.Font.{Font}
use Rattle.instance_core.specs.declared.cell.Cell.{Cell}
use Rattle.instance_core.specs.declared.page.Page.{Page}
use Rattle.dvi_write.specs.Document.{instance_name, no_row, row_of, step_suffix}
use Rattle.dvi_write.specs.Writable.{IsDefinable, IsWritable}
use Rattle.dvi_write.specs.declared.row.FontRow.{FontRow}
use Rattle.hpack_two.proofs.Fonts.{some-is}
use Rattle.job_text.specs.Fits.{IsFileName}
use Rattle.job_text.specs.declared.font_decl.FontDecl.{FontDecl}
use Rattle.para_workers.specs.Fitting.{IsCellOver, IsPageOver}
use Rattle.job_dvi.specs.Rows.{row_with, rows_of}
use Rattle.job_dvi.proofs.StockCells.{step-small}

abbrev pub HasShortName : FontRow → Type 0
HasShortName row = length row.name ≤ 40

pub length-rows : (fonts : List FontDecl) (stock : List Font) → length fonts ≡ length stock → length (rows_of fonts stock) ≡ length stock
unfolding rows_of
length-rows [] [] same = refl
length-rows [] (font ∷ stock) same = absurd (omega (arith, same))
length-rows (decl ∷ fonts) [] same = absurd (omega (arith, same))
length-rows (decl ∷ fonts) (font ∷ stock) same = ap suc (length-rows fonts stock (omega (arith, same)))

pub names-short : (fonts : List FontDecl) (stock : List Font) → All (λ (decl : FontDecl). IsFileName decl.name) fonts → All HasShortName (rows_of fonts stock)
unfolding rows_of
names-short [] stock names = All-nil HasShortName
names-short (decl ∷ fonts) [] names = All-nil HasShortName
names-short (decl ∷ fonts) (font ∷ stock) names =
    All-cons HasShortName (row_with decl font) (rows_of fonts stock)
    (All-head (λ (d : FontDecl). IsFileName d.name) decl fonts names).short
    (names-short fonts stock (All-tail (λ (d : FontDecl). IsFileName d.name) decl fonts names))

-- a sign and four digits at most
short-suffix : (step : ℤ) → unsigned_abs step ≤ 1000 → length (step_suffix step) ≤ 5
short-suffix step small = either (int_eq step (pos 0)) (length-decimal-le 4 (unsigned_abs step) (omega arith) (omega (arith, small)) (omega (arith, small)))
  where
    either : (none : Bool) → length (decimal (unsigned_abs step)) ≤ 4
        → length (cond none [] (cond (int_lt step (pos 0)) 45 43 ∷ decimal (unsigned_abs step))) ≤ 5
    either true few = omega arith
    either false few = omega (arith, few)

short-name : (rows : List FontRow) (cell : Cell) → All HasShortName rows → cell.font < length rows → unsigned_abs cell.step ≤ 1000
    → length (instance_name (row_of rows cell) cell) ≤ 255
unfolding instance_name row_of
short-name rows cell names inside small =
    let row : FontRow = slice_index_or rows cell.font no_row in
    let own : length row.name ≤ 40 = names cell.font no_row inside in
    omega (arith, length-append row.name (step_suffix cell.step), own, short-suffix cell.step small)

definable-over : (rows : List FontRow) (stock : List Font) (cell : Cell) → length rows ≡ length stock → All HasShortName rows → IsCellOver stock cell
    → IsDefinable rows cell
definable-over rows stock cell count names over =
    let inside : cell.font < length rows = omega (arith, count, over.font) in
    record { has_row = inside; name = short-name rows cell names inside (step-small stock cell over) }

pub writable-over : (rows : List FontRow) (stock : List Font) (pages : List Page) → length rows ≡ length stock → All HasShortName rows
    → All (IsPageOver stock) pages → All (IsWritable rows) pages
writable-over rows stock pages count names over = λ k page_d k_inside l line_d l_inside.
    let line = over k page_d k_inside l line_d l_inside in
    record {
      baseline = line.baseline;
      glyphs = λ g glyph_d g_inside.
          let glyph = line.glyphs g glyph_d g_inside in
          record { left = glyph.left; right = glyph.right; font = definable-over rows stock _ count names glyph.cell };
    }

-- ---- rows, one after another

rows-suc : (fonts : List FontDecl) (stock : List Font) (i : ℕ) (decl : FontDecl) (font : Font) → slice_get fonts i ≡ Some decl
    → slice_get stock i ≡ Some font → rows_of (take (suc i) fonts) stock ≡ rows_of (take i fonts) stock ++ row_with decl font ∷ []
unfolding rows_of
rows-suc [] stock i decl font has_decl has_font = absurd (cc)
rows-suc (d ∷ fonts) [] i decl font has_decl has_font = absurd (cc)
rows-suc (d ∷ fonts) (f ∷ stock) zero decl font has_decl has_font =
    λ i. row_with (some-is d decl has_decl i) (some-is f font has_font i) ∷ []
rows-suc (d ∷ fonts) (f ∷ stock) (suc i) decl font has_decl has_font =
    ap (λ rows. row_with d f ∷ rows) (rows-suc fonts stock i decl font has_decl has_font)

pub rows-next : (fonts : List FontDecl) (stock : List Font) (i : ℕ) (decl : FontDecl) (font : Font) → slice_get fonts i ≡ Some decl
    → slice_get stock i ≡ Some font → rows_of (take (i + 1) fonts) stock ≡ rows_of (take i fonts) stock ++ row_with decl font ∷ []
rows-next fonts stock i decl font has_decl has_font =
    let one : i + 1 ≡ suc i = omega arith in
    ap (λ (n : ℕ). rows_of (take n fonts) stock) one ∙ rows-suc fonts stock i decl font has_decl has_font

pub no-rows : (stock : List Font) → rows_of [] stock ≡ []
unfolding rows_of
no-rows stock = refl
