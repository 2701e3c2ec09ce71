-- The cells that a seat has seen, in cell order, when it has seen one more.
use Rattle.std.proofs.Common.{◌≡◌, ℕ, refl, ap, sym, ◌∙◌, Bool, true, false, cond, ◌||◌, List, [], ◌∷◌, ◌++◌, map}
use Rattle.std.specs.List.{filter}
use Rattle.instance_core.specs.declared.cell.Cell.{Cell}
use Rattle.instance_core.specs.declared.font.BaseFont.{BaseFont}
use Rattle.instance_core.specs.Cells.{cells_of, same_cell, has_cell, in_cell_order}
use Rattle.instance_core.proofs.CellNumbers.{same_cell-self}
use Rattle.instance_core.proofs.Marks.{has_cell-filter}
use Rattle.instance_table.specs.Places.{cell_of_number}
use Rattle.table_widths.specs.Widths.{touched_of}

-- tests that agree on the cells of a list pass the same of them
filter-same : (p q : Cell → Bool) (xs : List Cell) → ((d : Cell) → has_cell xs d ≡ true → p d ≡ q d) → filter p xs ≡ filter q xs
filter-same p q [] agree = refl
filter-same p q (x ∷ xs) agree =
    ap (λ b. cond b (x ∷ filter p xs) (filter p xs)) (agree x (ap (λ b. b || has_cell xs x) (same_cell-self x)))
    ∙ ap (λ ys. cond (q x) (x ∷ ys) ys) (filter-same p q xs (λ d inside. agree d (later (same_cell d x) (has_cell xs d) inside)))
  where
    later : (a b : Bool) → b ≡ true → a || b ≡ true
    later true b inside = refl
    later false b inside = inside

-- a cell behind a list is found where it is found before it
has_cell-behind : (xs : List Cell) (c d : Cell) → has_cell (xs ++ c ∷ []) d ≡ has_cell (c ∷ xs) d
has_cell-behind [] c d = refl
has_cell-behind (x ∷ xs) c d =
    ap (λ b. same_cell d x || b) (has_cell-behind xs c d) ∙ either (same_cell d x) (same_cell d c) (has_cell xs d)
  where
    either : (a b r : Bool) → a || (b || r) ≡ b || (a || r)
    either true true r = refl
    either true false r = refl
    either false b r = refl

map-behind : (fs : List BaseFont) (seen : List ℕ) (n : ℕ)
    → map (cell_of_number fs) (seen ++ n ∷ []) ≡ map (cell_of_number fs) seen ++ cell_of_number fs n ∷ []
map-behind fs [] n = refl
map-behind fs (m ∷ seen) n = ap (λ cs. cell_of_number fs m ∷ cs) (map-behind fs seen n)

pub touched_of-more : (fs : List BaseFont) (seen : List ℕ) (n : ℕ) (c : Cell) → cell_of_number fs n ≡ c
    → touched_of fs (seen ++ n ∷ []) ≡ in_cell_order fs (c ∷ touched_of fs seen)
touched_of-more fs seen n c is =
    ap (in_cell_order fs) (map-behind fs seen n ∙ ap (λ x. map (cell_of_number fs) seen ++ x ∷ []) is)
    ∙ filter-same (has_cell (map (cell_of_number fs) seen ++ c ∷ [])) (has_cell (c ∷ touched_of fs seen)) (cells_of fs)
    (λ d inside.
    has_cell-behind (map (cell_of_number fs) seen) c d
    ∙ ap (λ b. same_cell d c || b) (sym (has_cell-filter (has_cell (map (cell_of_number fs) seen)) (cells_of fs) d inside)))
