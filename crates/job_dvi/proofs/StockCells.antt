-- The cells of the fonts of a stock: there are few, and their steps are small.
--     few-uses          pages over a stock use at most 65,536 cells
--     step-small        a cell over a stock has a step within a thousand thousandths
use Rattle.std.proofs.Common.{◌≡◌, ◌⊎◌, inl, inr, ℕ, zero, suc, ◌+◌, ◌-◌, ◌*◌, ◌/◌, ◌<◌, ◌≤◌, refl, ap, sym, ◌∙◌, subst, arith, Bool, true, false, ◌||◌, List, [], ◌∷◌, ◌++◌, length, length-append, map, get_or, Option, Some, None, ℤ, pos}
use Rattle.std.specs.Prelude.{All, Contains, unsigned_abs}
use Rattle.std.specs.List.{range_with_len}
use Rattle.std.proofs.Math.Nat.{div-le_self, div-mul-le_self}
use Rattle.std.proofs.lemmas.Bool.{cases_lt}
use Rattle.std.proofs.lemmas.List.{length-map}
use Rattle.std.proofs.lemmas.List.FromFn.{get_or-map-range_with_len, length-map-range_with_len}
use Rattle.std.proofs.lemmas.List.Elements.{All-append, All-cons, All-contains, All-from_get_or, All-head, All-map, All-nil, All-tail, Contains-append_left, Contains-append_right}
use Rattle.std.proofs.lemmas.Nat.{mul-le}
use Rattle.micro_num.proofs.Signs.{minus_abs}
use Rattle.font_stock.specs.declared.expand.Expand.{Expand}
use Rattle.font_stock.specs.declared.font.Font.{Font}
use Rattle.instance_core.specs.declared.cell.Cell.{Cell}
use Rattle.instance_core.specs.declared.font.BaseFont.{BaseFont}
use Rattle.instance_core.specs.declared.page.Page.{Page}
use Rattle.instance_core.specs.Cells.{cell_at, cells_from, cells_of, has_cell, same_cell, steps_of}
use Rattle.instance_core.proofs.CellNumbers.{same_cell-self}
use Rattle.instance_core.proofs.Steps.{above, below, length-steps_of, steps_of-above, steps_of-below}
use Rattle.hpack_two.specs.Over.{base_of, base_with}
use Rattle.renumber.specs.Uses.{cells_of_pages, first_uses}
use Rattle.renumber.proofs.FewUses.{first_uses-within}
use Rattle.renumber.proofs.UsedCells.{all_of_pages}
use Rattle.para_workers.specs.Fitting.{IsCellOver, IsPageOver}

-- how far a font of a stock may be expanded
record IsLimited (font : BaseFont) : Type 0 where
  stretch : font.stretch ≤ 1000
  shrink : font.shrink ≤ 1000

limited-with : (size : ℤ) (widths : List ℤ) (expand : Option Expand) → IsLimited (base_with size widths expand)
limited-with size widths None = record { stretch = omega arith; shrink = omega arith }
limited-with size widths (Some e) = record { stretch = e.limits.stretch_fits; shrink = omega (arith, e.limits.shrink_fits) }

limited-base : (font : Font) → IsLimited (base_of font)
unfolding base_of
limited-base font = limited-with font.size _ font.expand

limited-all : (stock : List Font) → All IsLimited (map base_of stock)
limited-all [] = All-nil IsLimited
limited-all (font ∷ stock) = All-cons IsLimited (base_of font) (map base_of stock) (limited-base font) (limited-all stock)

-- ---- steps

abbrev IsSmallStep : ℤ → Type 0
IsSmallStep step = unsigned_abs step ≤ 1000

shrunk-small : (f : BaseFont) (k : ℕ) → IsLimited f → IsSmallStep (below f k)
shrunk-small f k limits = rw (minus_abs (f.shrink - k * f.step)) (omega (arith, limits.shrink))

stretched-small : (f : BaseFont) (k : ℕ) → IsLimited f → k ≤ f.stretch / f.step → IsSmallStep (above f k)
stretched-small f k limits few =
    let some : k * f.step ≤ f.stretch / f.step * f.step = mul-le k f.step (f.stretch / f.step) f.step few (omega arith) in
    let all : f.stretch / f.step * f.step ≤ f.stretch = div-mul-le_self f.stretch f.step in
    omega (arith, some, all, limits.stretch)

steps-small : (f : BaseFont) → IsLimited f → All IsSmallStep (steps_of f)
steps-small f limits =
    All-from_get_or IsSmallStep (steps_of f) (pos 0) (λ i inside.
    elim (cases_lt i (f.shrink / f.step)) [
      | inl low ↦ rw (steps_of-below f i (pos 0) low) (shrunk-small f i limits)
      | inr high ↦
          let long = length-steps_of f in
          let few : i - f.shrink / f.step < f.stretch / f.step = omega (arith, inside, long, high) in
          rw (steps_of-above f i (pos 0) high few) (stretched-small f (i - f.shrink / f.step + 1) limits (omega (arith, few)))
    ])

few-steps : (f : BaseFont) → IsLimited f → length (steps_of f) ≤ 2000
few-steps f limits =
    omega (arith, length-steps_of f, div-le_self f.shrink f.step, div-le_self f.stretch f.step, limits.stretch, limits.shrink)

-- ---- cells

abbrev HasSmallStep : Cell → Type 0
HasSmallStep cell = IsSmallStep cell.step

cells-small : (first : ℕ) (fonts : List BaseFont) → All IsLimited fonts → All HasSmallStep (cells_from first fonts)
unfolding cells_from
cells-small first [] limits = All-nil HasSmallStep
cells-small first (f ∷ fs) limits =
    All-append HasSmallStep (map (cell_at first) (steps_of f)) (cells_from (first + 1) fs)
    (All-map HasSmallStep (cell_at first) (steps_of f) (steps-small f (All-head IsLimited f fs limits)))
    (cells-small (first + 1) fs (All-tail IsLimited f fs limits))

few-cells : (first : ℕ) (fonts : List BaseFont) → All IsLimited fonts → length (cells_from first fonts) ≤ 2000 * length fonts
unfolding cells_from
few-cells first [] limits = omega arith
few-cells first (f ∷ fs) limits =
    let both = length-append (map (cell_at first) (steps_of f)) (cells_from (first + 1) fs) in
    let own = length-map (steps_of f) (cell_at first) in
    omega (arith, both, own, few-steps f (All-head IsLimited f fs limits), few-cells (first + 1) fs (All-tail IsLimited f fs limits))

pub step-small : (stock : List Font) (cell : Cell) → IsCellOver stock cell → unsigned_abs cell.step ≤ 1000
step-small stock cell over = either over.step
  where
    either : (cell.step ≡ pos 0) ⊎ Contains (cells_of (map base_of stock)) cell → unsigned_abs cell.step ≤ 1000
    either (inl none) = rw none (omega arith)
    either (inr has) = All-contains HasSmallStep (cells_of (map base_of stock)) cell (cells-small 0 (map base_of stock) (limited-all stock)) has

-- ---- the cells that pages use

-- the fonts as they are, and their instances
abbrev plain_cells : ℕ → List Cell
plain_cells count = map (λ n. cell_at n (pos 0)) (range_with_len 0 count)

abbrev all_cells : List Font → List Cell
all_cells stock = plain_cells (length stock) ++ cells_of (map base_of stock)

few-all : (stock : List Font) → length stock ≤ 32 → length (all_cells stock) ≤ 65536
few-all stock few =
    let both = length-append (plain_cells (length stock)) (cells_of (map base_of stock)) in
    let plain = length-map-range_with_len (λ n. cell_at n (pos 0)) 0 (length stock) in
    let fonts = length-map stock base_of in
    omega (arith, few, both, plain, fonts, few-cells 0 (map base_of stock) (limited-all stock))

has-contained : (cells : List Cell) (cell : Cell) → Contains cells cell → has_cell cells cell ≡ true
has-contained cells cell (k, inside, is) = found cells k inside is
  where
    more : (b rest : Bool) → rest ≡ true → (b || rest) ≡ true
    more true rest is = refl
    more false rest is = is

    found : (xs : List Cell) (i : ℕ) → i < length xs → get_or xs i cell ≡ cell → has_cell xs cell ≡ true
    found [] i within same = absurd (omega (arith, within))
    found (x ∷ xs) zero within same = ap (λ b. b || has_cell xs cell) (ap (same_cell cell) same ∙ same_cell-self cell)
    found (x ∷ xs) (suc i) within same = more (same_cell cell x) (has_cell xs cell) (found xs i (omega (arith, within)) same)

plain-contained : (count number : ℕ) → number < count → Contains (plain_cells count) (cell_at number (pos 0))
plain-contained count number inside =
    let long = length-map-range_with_len (λ n. cell_at n (pos 0)) 0 count in (
      number,
      omega (arith, inside, long),
      get_or-map-range_with_len (λ n. cell_at n (pos 0)) 0 count number number (cell_at number (pos 0)) inside (omega arith),
    )

pub used-one : (stock : List Font) (cell : Cell) → IsCellOver stock cell → has_cell (all_cells stock) cell ≡ true
used-one stock cell over = has-contained (all_cells stock) cell (either over.step)
  where
    either : (cell.step ≡ pos 0) ⊎ Contains (cells_of (map base_of stock)) cell → Contains (all_cells stock) cell
    either (inl none) =
        let same : cell_at cell.font (pos 0) ≡ cell = λ i. record { font = cell.font; step = sym none i } in
        Contains-append_left (plain_cells (length stock)) (cells_of (map base_of stock)) cell
        (subst (Contains (plain_cells (length stock))) same (plain-contained (length stock) cell.font over.font))
    either (inr has) = Contains-append_right (plain_cells (length stock)) (cells_of (map base_of stock)) cell has

pub few-uses : (stock : List Font) (pages : List Page) → length stock ≤ 32 → All (IsPageOver stock) pages
    → length (first_uses (cells_of_pages pages)) ≤ 65536
few-uses stock pages few over =
    let each = all_of_pages (λ c. has_cell (all_cells stock) c ≡ true) pages (λ k page_d k_inside l line_d l_inside g glyph_d g_inside.
    used-one stock _ ((over k page_d k_inside l line_d l_inside).glyphs g glyph_d g_inside).cell) in
    omega (arith, few-all stock few, first_uses-within (all_cells stock) (cells_of_pages pages) each)
