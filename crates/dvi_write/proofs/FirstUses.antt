-- The first uses of cells, and the numbers of fonts: those defined are those of the glyphs before.
use Rattle.std.proofs.Common.{◌≡◌, ℕ, suc, ◌+◌, refl, ap, ◌∙◌, arith, Bool, true, false, cond, not, ◌||◌, nat_lt, List, [], ◌∷◌, ◌++◌, length, Option, Some}
use Rattle.std.specs.List.{last_or}
use Rattle.std.proofs.lemmas.Bool.Decides.{nat_tests}
use Rattle.std.proofs.lemmas.List.{append-nil}
use Rattle.instance_core.specs.declared.cell.Cell.{Cell}
use Rattle.instance_core.specs.Cells.{same_cell, has_cell}
use Rattle.instance_core.proofs.CellNumbers.{same_cell-self}
use Rattle.renumber.specs.Uses.{first_uses}
use Rattle.renumber.proofs.InsertedCells.{news, first_uses-append}
use Rattle.renumber.proofs.UsedCells.{has_cell-first_uses}
use Rattle.dvi_write.specs.Document.{number_at}
use Rattle.dvi_write.proofs.NumbersAt.{number_at-cons}

-- a number is below the count of a list's front where the front has the cell
pub number_at-front : (xs ys : List Cell) (c : Cell) → nat_lt (number_at (xs ++ ys) c) (length xs) ≡ has_cell xs c
number_at-front [] ys c = grind (arith, nat_tests)
number_at-front (x ∷ xs) ys c =
    ap (λ n. nat_lt n (suc (length xs))) (number_at-cons x (xs ++ ys) c)
    ∙ by_test (same_cell c x) (number_at (xs ++ ys) c) (length xs) (has_cell xs c) (number_at-front xs ys c)
  where
    by_test : (s : Bool) (n len : ℕ) (h : Bool) → nat_lt n len ≡ h → nat_lt (cond s 0 (n + 1)) (suc len) ≡ s || h
    by_test true n len h is = grind (arith, nat_tests)
    by_test false n len h is = (let same : nat_lt (n + 1) (suc len) ≡ nat_lt n len = grind (arith, nat_tests) in same) ∙ is

number_at-next : (xs ys : List Cell) (c : Cell) → has_cell xs c ≡ false → number_at (xs ++ c ∷ ys) c ≡ length xs
number_at-next [] ys c new = number_at-cons c ys c ∙ ap (λ b. cond b 0 (number_at ys c + 1)) (same_cell-self c)
number_at-next (x ∷ xs) ys c new =
    number_at-cons x (xs ++ c ∷ ys) c
    ∙ by_test (same_cell c x) (has_cell xs c) (number_at (xs ++ c ∷ ys) c) (length xs) new (number_at-next xs ys c)
  where
    by_test : (s h : Bool) (n len : ℕ) → s || h ≡ false → (h ≡ false → n ≡ len) → cond s 0 (n + 1) ≡ suc len
    by_test true h n len new later = absurd (cc)
    by_test false h n len new later = let is = later new in omega (arith, is)

-- a font is defined where a glyph before has it
pub defined-before : (before rest : List Cell) (c : Cell)
    → nat_lt (number_at (first_uses (before ++ rest)) c) (length (first_uses before)) ≡ has_cell before c
defined-before before rest c =
    ap (λ cells. nat_lt (number_at cells c) (length (first_uses before))) (first_uses-append before rest)
    ∙ number_at-front (first_uses before) _ c ∙ has_cell-first_uses before c

-- the first uses with one cell more, which is known or new
news-one : (cells rest : List Cell) (c : Cell) (b : Bool) → has_cell cells c ≡ b → news cells (c ∷ rest) ≡ cond (not b) (c ∷ news cells rest) (news cells rest)
news-one cells rest c b is = ap (λ h. cond (not h) (c ∷ news cells rest) (news cells rest)) is

pub first_uses-known : (before : List Cell) (c : Cell) → has_cell before c ≡ true → first_uses (before ++ c ∷ []) ≡ first_uses before
unfolding first_uses
first_uses-known before c known =
    first_uses-append before (c ∷ [])
    ∙ ap (λ ys. first_uses before ++ ys) (news-one (first_uses before) [] c true (has_cell-first_uses before c ∙ known))
    ∙ append-nil (first_uses before)

pub first_uses-new : (before : List Cell) (c : Cell) → has_cell before c ≡ false → first_uses (before ++ c ∷ []) ≡ first_uses before ++ c ∷ []
unfolding first_uses
first_uses-new before c new =
    first_uses-append before (c ∷ [])
    ∙ ap (λ ys. first_uses before ++ ys) (news-one (first_uses before) [] c false (has_cell-first_uses before c ∙ new))

pub number-new : (before rest : List Cell) (c : Cell) → has_cell before c ≡ false
    → number_at (first_uses (before ++ c ∷ rest)) c ≡ length (first_uses before)
unfolding first_uses
number-new before rest c new =
    ap (λ cells. number_at cells c)
    (first_uses-append before (c ∷ rest)
    ∙ ap (λ ys. first_uses before ++ ys) (news-one (first_uses before) _ c false (has_cell-first_uses before c ∙ new)))
    ∙ number_at-next (first_uses before) _ c (has_cell-first_uses before c ∙ new)

pub last_or-push : {A : Type 0} (o : Option A) (xs : List A) (x : A) → last_or o (xs ++ x ∷ []) ≡ Some x
last_or-push o [] x = refl
last_or-push o (y ∷ ys) x = last_or-push (Some y) ys x
