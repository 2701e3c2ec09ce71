-- Glyphs that all have one cell put in that cell alone.
--     insert_one_cell    where all glyphs have the cell of the first, that cell is all that is put in
use Rattle.std.proofs.Common.{◌≡◌, ℕ, ◌<◌, refl, ap, ◌∙◌, arith, Bool, true, false, cond, ◌&&◌, ◌||◌, List, [], ◌∷◌, ◌++◌, length, map, get_or}
use Rattle.std.specs.List.{list_all}
use Rattle.indexmap.specs.IndexSet.{insert_key, insert_all}
use Rattle.instance_core.specs.declared.cell.Cell.{Cell}
use Rattle.instance_core.specs.declared.page.Placed.{Placed}
use Rattle.instance_core.specs.Cells.{same_cell, has_cell}
use Rattle.instance_core.proofs.CellNumbers.{same_cell-is, same_cell-self}
use Rattle.renumber.proofs.InsertedCells.{has_cell-append}

insert_key-known : (ks : List Cell) (c : Cell) → has_cell ks c ≡ true → insert_key same_cell ks c ≡ ks
insert_key-known ks c known = ap (λ b. cond b ks (ks ++ c ∷ [])) known

has_cell-inserted : (ks : List Cell) (c : Cell) → has_cell (insert_key same_cell ks c) c ≡ true
has_cell-inserted ks c = by_test (has_cell ks c) refl
  where
    or_true : (a b : Bool) → b ≡ true → a || (b || false) ≡ true
    or_true true b is = refl
    or_true false b is = ap (λ x. x || false) is

    by_test : (b : Bool) → has_cell ks c ≡ b → has_cell (cond b ks (ks ++ c ∷ [])) c ≡ true
    by_test true known = known
    by_test false new = has_cell-append ks (c ∷ []) c ∙ or_true (has_cell ks c) (same_cell c c) (same_cell-self c)

both : (a b : Bool) → a && b ≡ true → (a ≡ true) × (b ≡ true)
both true true is = (refl, refl)
both true false is = absurd (cc)
both false b is = absurd (cc)

insert_all-known : (ks : List Cell) (c : Cell) (gs : List Placed) → has_cell ks c ≡ true
    → list_all (λ (g : Placed). same_cell g.cell c) gs ≡ true → insert_all same_cell ks (map (λ (g : Placed). g.cell) gs) ≡ ks
insert_all-known ks c [] known all = refl
insert_all-known ks c (g ∷ gs) known all =
    let parts = both (same_cell g.cell c) (list_all (λ (x : Placed). same_cell x.cell c) gs) all in
    ap (λ cells. insert_all same_cell cells (map (λ (x : Placed). x.cell) gs)) (insert_key-known ks g.cell (ap (has_cell ks) (same_cell-is g.cell c parts.0) ∙ known))
    ∙ insert_all-known ks c gs known parts.1

pub insert_one_cell : (ks : List Cell) (gs : List Placed) (d : Placed) → 0 < length gs
    → list_all (λ (g : Placed). same_cell g.cell (get_or gs 0 d).cell) gs ≡ true
    → insert_all same_cell ks (map (λ (g : Placed). g.cell) gs) ≡ insert_key same_cell ks (get_or gs 0 d).cell
insert_one_cell ks [] d some all = absurd (omega arith)
insert_one_cell ks (g ∷ gs) d some all =
    let parts = both (same_cell g.cell g.cell) (list_all (λ (x : Placed). same_cell x.cell g.cell) gs) all in
    insert_all-known (insert_key same_cell ks g.cell) g.cell gs (has_cell-inserted ks g.cell) parts.1
