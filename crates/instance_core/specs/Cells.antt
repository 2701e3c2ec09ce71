-- The cells of fonts: which instances there are, in their order.
--     steps_of font              the steps of a font's instances, ascending
--     cells_of fonts             the cells of all fonts
--     number_of fonts cell       the place of a cell among them
--     has_cell cells cell        whether the cell is in the list
--     IsCellOf fonts cell        the cell is one of the fonts'
--     in_cell_order fonts cells  the cells of a list in their order, without repeats
use Rattle.std.specs.Prelude.{ℕ, ◌+◌, ◌-◌, ◌*◌, ◌/◌, ℤ, pos, neg_ℤ, Bool, ◌&&◌, nat_eq, List, [], ◌∷◌, ◌++◌, map, filter, Option, Contains}
use Rattle.std.specs.List.{range_with_len, list_any, position_from}
use Rattle.std.specs.Ordering.{int_eq}
use Rattle.instance_core.specs.declared.font.BaseFont.{BaseFont}
use Rattle.instance_core.specs.declared.cell.Cell.{Cell}

-- from -shrink up to -step, and from step up to stretch, in multiples of the step
unfoldable pub steps_of : BaseFont → List ℤ
steps_of font =
    map (λ k. neg_ℤ (pos (font.shrink - k * font.step))) (range_with_len 0 (font.shrink / font.step))
    ++ map (λ k. pos (k * font.step)) (range_with_len 1 (font.stretch / font.step))

-- the place of a step among them
abbrev pub place_of : BaseFont → ℤ → Option ℕ
place_of font step = position_from (int_eq step) 0 (steps_of font)

abbrev pub cell_at : ℕ → ℤ → Cell
cell_at font step = record { font = font; step = step }

-- fonts in order, of which the first has this number, and each font's steps ascending
unfoldable pub cells_from : ℕ → List BaseFont → List Cell
cells_from first [] = []
cells_from first (font ∷ fonts) = map (cell_at first) (steps_of font) ++ cells_from (first + 1) fonts

abbrev pub cells_of : List BaseFont → List Cell
cells_of fonts = cells_from 0 fonts

abbrev pub same_cell : Cell → Cell → Bool
same_cell a b = nat_eq a.font b.font && int_eq a.step b.step

abbrev pub number_of : List BaseFont → Cell → Option ℕ
number_of fonts cell = position_from (same_cell cell) 0 (cells_of fonts)

abbrev pub IsCellOf : List BaseFont → Cell → Type 0
IsCellOf fonts cell = Contains (cells_of fonts) cell

abbrev pub has_cell : List Cell → Cell → Bool
has_cell cells cell = list_any (same_cell cell) cells

abbrev pub in_cell_order : List BaseFont → List Cell → List Cell
in_cell_order fonts cells = filter (has_cell cells) (cells_of fonts)
