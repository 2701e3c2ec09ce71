-- The cells of pages and their first uses: each cell of the one list is in the other.
--     has_cell-first_uses    the first uses have the cells of the list
--     all_of_pages           what holds of each glyph's cell holds of all cells of pages
--     all_of_first_uses      what holds of all cells holds of the first uses
use Rattle.std.proofs.Common.{◌≡◌, refl, ap, sym, ◌∙◌, Bool, true, false, cond, not, ◌||◌, List, [], ◌∷◌, map}
use Rattle.std.specs.List.{All, filter}
use Rattle.std.proofs.lemmas.List.Elements.{All-head, All-tail, All-cons, All-nil, All-append, All-filter}
use Rattle.instance_core.specs.declared.cell.Cell.{Cell}
use Rattle.instance_core.specs.declared.page.Placed.{Placed}
use Rattle.instance_core.specs.declared.page.PageLine.{PageLine}
use Rattle.instance_core.specs.declared.page.Page.{Page}
use Rattle.instance_core.specs.Cells.{same_cell, has_cell}
use Rattle.instance_core.proofs.CellNumbers.{same_cell-is}
use Rattle.renumber.specs.Uses.{cells_of_line, cells_of_lines, cells_of_pages, first_uses}

-- a filter that passes a cell keeps it where the list has it
has_cell-cond : (b : Bool) (x : Cell) (xs : List Cell) (c : Cell)
    → has_cell (cond b (x ∷ xs) xs) c ≡ cond b (same_cell c x || has_cell xs c) (has_cell xs c)
has_cell-cond true x xs c = refl
has_cell-cond false x xs c = refl

pub has_cell-kept : (p : Cell → Bool) (xs : List Cell) (c : Cell) → p c ≡ true → has_cell (filter p xs) c ≡ has_cell xs c
has_cell-kept p [] c passes = refl
has_cell-kept p (x ∷ xs) c passes =
    has_cell-cond (p x) x (filter p xs) c
    ∙ by_test (p x) (same_cell c x) (has_cell (filter p xs) c) (has_cell xs c)
    (λ same. sym (ap p (same_cell-is c x same)) ∙ passes) (has_cell-kept p xs c passes)
  where
    by_test : (b s kept all : Bool) → (s ≡ true → b ≡ true) → kept ≡ all → cond b (s || kept) kept ≡ s || all
    by_test true s kept all same rest = ap (λ h. s || h) rest
    by_test false true kept all same rest = let never : false ≡ true = same refl in absurd (cc)
    by_test false false kept all same rest = rest

-- the first uses of a list have its cells
pub has_cell-first_uses : (cells : List Cell) (c : Cell) → has_cell (first_uses cells) c ≡ has_cell cells c
unfolding first_uses
has_cell-first_uses [] c = refl
has_cell-first_uses (x ∷ xs) c =
    by_test (same_cell c x) refl (has_cell-first_uses xs c)
  where
    by_test : (s : Bool) → same_cell c x ≡ s → has_cell (first_uses xs) c ≡ has_cell xs c
        → same_cell c x || has_cell (filter (λ d. not (same_cell d x)) (first_uses xs)) c ≡ same_cell c x || has_cell xs c
    by_test true same rest = ap (λ s. s || has_cell (filter (λ d. not (same_cell d x)) (first_uses xs)) c) same ∙ sym (ap (λ s. s || has_cell xs c) same)
    by_test false other rest =
        ap (λ h. same_cell c x || h) (has_cell-kept (λ d. not (same_cell d x)) (first_uses xs) c (ap not other) ∙ rest)

-- what holds of each glyph's cell
abbrev pub OfLine : (Cell → Type 0) → PageLine → Type 0
OfLine P placed = All (λ (g : Placed). P g.cell) placed.line.glyphs

abbrev pub OfPage : (Cell → Type 0) → Page → Type 0
OfPage P page = All (OfLine P) page.lines

all_of_line : (P : Cell → Type 0) (glyphs : List Placed) → All (λ (g : Placed). P g.cell) glyphs → All P (map (λ (g : Placed). g.cell) glyphs)
all_of_line P [] all = All-nil P
all_of_line P (g ∷ gs) all =
    All-cons P g.cell (map (λ (x : Placed). x.cell) gs) (All-head (λ (x : Placed). P x.cell) g gs all)
    (all_of_line P gs (All-tail (λ (x : Placed). P x.cell) g gs all))

all_of_lines : (P : Cell → Type 0) (lines : List PageLine) → All (OfLine P) lines → All P (cells_of_lines lines)
all_of_lines P [] all = All-nil P
all_of_lines P (l ∷ ls) all =
    All-append P (cells_of_line l.line) (cells_of_lines ls) (all_of_line P l.line.glyphs (All-head (OfLine P) l ls all))
    (all_of_lines P ls (All-tail (OfLine P) l ls all))

pub all_of_pages : (P : Cell → Type 0) (pages : List Page) → All (OfPage P) pages → All P (cells_of_pages pages)
all_of_pages P [] all = All-nil P
all_of_pages P (p ∷ ps) all =
    All-append P (cells_of_lines p.lines) (cells_of_pages ps) (all_of_lines P p.lines (All-head (OfPage P) p ps all))
    (all_of_pages P ps (All-tail (OfPage P) p ps all))

pub all_of_first_uses : (P : Cell → Type 0) (cells : List Cell) → All P cells → All P (first_uses cells)
unfolding first_uses
all_of_first_uses P [] all = All-nil P
all_of_first_uses P (c ∷ cs) all =
    All-cons P c (filter (λ d. not (same_cell d c)) (first_uses cs)) (All-head P c cs all)
    (All-filter (λ d. not (same_cell d c)) P (first_uses cs) (all_of_first_uses P cs (All-tail P c cs all)))
