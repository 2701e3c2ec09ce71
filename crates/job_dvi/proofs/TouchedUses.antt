-- The cells that a source was asked for are those that the pages use.
--     stepped-pages        the cells of glyphs that are expanded, among those of all glyphs
--     touched_are_used     where it was asked for these alone, it has touched the used ones
use Rattle.std.proofs.Common.{◌≡◌, refl, ap, sym, ◌∙◌, Bool, true, false, cond, not, ◌||◌, List, [], ◌∷◌, ◌++◌, append-nil, map, pos}
use Rattle.std.specs.Prelude.{filter, flat_map}
use Rattle.std.specs.Ordering.{int_eq}
use Rattle.std.proofs.lemmas.List.Elements.{filter-append}
use Rattle.instance_core.specs.Cells.{cells_of, has_cell, in_cell_order, same_cell}
use Rattle.instance_core.specs.declared.cell.Cell.{Cell}
use Rattle.instance_core.specs.declared.font.BaseFont.{BaseFont}
use Rattle.instance_core.specs.declared.page.Page.{Page}
use Rattle.instance_core.specs.declared.page.PageLine.{PageLine}
use Rattle.instance_core.specs.declared.page.Placed.{Placed}
use Rattle.instance_core.proofs.CellNumbers.{same_cell-is}
use Rattle.hpack_two.specs.Answers.{touched_with}
use Rattle.hpack_two.specs.Lines.{stepped, stepped_cell}
use Rattle.renumber.specs.Uses.{cells_of_line, cells_of_lines, cells_of_pages, first_uses, used}
use Rattle.renumber.proofs.UsedCells.{has_cell-first_uses, has_cell-kept}
use Rattle.para_workers.specs.Touched.{cells_of_all, cells_of_page}

abbrev is_instance : Cell → Bool
is_instance cell = not (int_eq cell.step (pos 0))

-- ---- expanded glyphs

one-stepped : (cell : Cell) (rest : List Cell) → stepped_cell cell ++ rest ≡ cond (is_instance cell) (cell ∷ rest) rest
one-stepped cell rest = either (is_instance cell)
  where
    either : (b : Bool) → cond b (cell ∷ []) [] ++ rest ≡ cond b (cell ∷ rest) rest
    either true = refl
    either false = refl

stepped-glyphs : (glyphs : List Placed) → stepped glyphs ≡ filter is_instance (map (λ (g : Placed). g.cell) glyphs)
unfolding stepped
stepped-glyphs [] = refl
stepped-glyphs (g ∷ gs) =
    ap (λ cells. stepped_cell g.cell ++ cells) (stepped-glyphs gs) ∙ one-stepped g.cell (filter is_instance (map (λ (x : Placed). x.cell) gs))

stepped-lines : (page : Page) (lines : List PageLine) → page.lines ≡ lines → cells_of_page page ≡ filter is_instance (cells_of_lines lines)
unfolding cells_of_page
stepped-lines page lines is = ap (λ ls. flat_map (λ (placed : PageLine). stepped placed.line.glyphs) ls) is ∙ each lines
  where
    each : (ls : List PageLine) → flat_map (λ (placed : PageLine). stepped placed.line.glyphs) ls ≡ filter is_instance (cells_of_lines ls)
    each [] = refl
    each (l ∷ ls) =
        ap (λ cells. stepped l.line.glyphs ++ cells) (each ls)
        ∙ ap (λ cells. cells ++ filter is_instance (cells_of_lines ls)) (stepped-glyphs l.line.glyphs)
        ∙ sym (filter-append is_instance (cells_of_line l.line) (cells_of_lines ls))

pub stepped-pages : (pages : List Page) → cells_of_all pages ≡ filter is_instance (cells_of_pages pages)
unfolding cells_of_all
stepped-pages [] = refl
stepped-pages (p ∷ ps) =
    ap (λ cells. cells_of_page p ++ cells) (stepped-pages ps)
    ∙ ap (λ cells. cells ++ filter is_instance (cells_of_pages ps)) (stepped-lines p p.lines refl)
    ∙ sym (filter-append is_instance (cells_of_lines p.lines) (cells_of_pages ps))

-- ---- lists with the same cells

-- a cell that a filter doesn't pass is in no list that it gives
has_cell-dropped : (p : Cell → Bool) (xs : List Cell) (c : Cell) → p c ≡ false → has_cell (filter p xs) c ≡ false
has_cell-dropped p [] c drops = refl
has_cell-dropped p (x ∷ xs) c drops = either (p x) refl (same_cell c x) refl (has_cell-dropped p xs c drops)
  where
    either : (b : Bool) → p x ≡ b → (s : Bool) → same_cell c x ≡ s → has_cell (filter p xs) c ≡ false → has_cell (cond b (x ∷ filter p xs) (filter p xs)) c ≡ false
    either false known s same rest = rest
    either true known false same rest = ap (λ t. t || has_cell (filter p xs) c) same ∙ rest
    either true known true same rest =
        let never : true ≡ false = sym known ∙ ap p (sym (same_cell-is c x same)) ∙ drops in
        absurd (cc)

same-filtered : (p : Cell → Bool) (xs ys : List Cell) (c : Cell) → has_cell xs c ≡ has_cell ys c → has_cell (filter p xs) c ≡ has_cell (filter p ys) c
same-filtered p xs ys c same = either (p c) refl
  where
    either : (b : Bool) → p c ≡ b → has_cell (filter p xs) c ≡ has_cell (filter p ys) c
    either true passes = has_cell-kept p xs c passes ∙ same ∙ sym (has_cell-kept p ys c passes)
    either false drops = has_cell-dropped p xs c drops ∙ sym (has_cell-dropped p ys c drops)

in_order-same : (fonts : List BaseFont) (xs ys : List Cell) → ((c : Cell) → has_cell xs c ≡ has_cell ys c) → in_cell_order fonts xs ≡ in_cell_order fonts ys
in_order-same fonts xs ys same = λ i. filter (λ c. same c i) (cells_of fonts)

pub touched_are_used : (fonts : List BaseFont) (pages : List Page) (before touched : List Cell) → before ≡ []
    → touched ≡ touched_with fonts (cells_of_all pages) before → touched ≡ used fonts pages
touched_are_used fonts pages before touched none is =
    is
    ∙ ap (λ cells. in_cell_order fonts (cells_of_all pages ++ cells)) none
    ∙ ap (in_cell_order fonts) (append-nil (cells_of_all pages) ∙ stepped-pages pages)
    ∙ in_order-same fonts (filter is_instance (cells_of_pages pages)) (filter is_instance (first_uses (cells_of_pages pages)))
    (λ c. same-filtered is_instance (cells_of_pages pages) (first_uses (cells_of_pages pages)) c (sym (has_cell-first_uses (cells_of_pages pages) c)))
