-- The number of a cell that a list has.
use Rattle.std.proofs.Common.{◌≡◌, ℕ, suc, ◌+◌, ◌<◌, refl, ap, arith, Bool, true, false, cond, not, ◌||◌, List, [], ◌∷◌, length, Some, None}
use Rattle.std.specs.List.{position_or_len}
use Rattle.std.proofs.lemmas.Bool.{lt-ltb}
use Rattle.instance_core.specs.declared.cell.Cell.{Cell}
use Rattle.instance_core.specs.Cells.{same_cell, has_cell}
use Rattle.renumber.specs.Uses.{number_in}
use Rattle.dvi_write.specs.Document.{number_at}

pub number_at-cons : (x : Cell) (xs : List Cell) (c : Cell) → number_at (x ∷ xs) c ≡ cond (same_cell c x) 0 (number_at xs c + 1)
unfolding number_at
number_at-cons x xs c = by_test (same_cell c x) (position_or_len (same_cell c) xs)
  where
    by_test : (b : Bool) (more : ℕ) → cond (not b) (1 + more) 0 ≡ cond b 0 (more + 1)
    by_test true more = refl
    by_test false more = omega arith

pub number_at-within : (cells : List Cell) (c : Cell) → has_cell cells c ≡ true → number_at cells c < length cells
number_at-within [] c inside = absurd (cc)
number_at-within (x ∷ xs) c inside =
    let is = number_at-cons x xs c in
    omega (arith, is, by_test (same_cell c x) (has_cell xs c) (number_at xs c) (length xs) inside (number_at-within xs c))
  where
    by_test : (b h : Bool) (more len : ℕ) → b || h ≡ true → (h ≡ true → more < len) → cond b 0 (more + 1) < suc len
    by_test true h more len either later = omega arith
    by_test false h more len either later = omega (arith, later either)

pub number_in-some : (cells : List Cell) (c : Cell) → has_cell cells c ≡ true → number_in cells c ≡ Some (number_at cells c)
unfolding number_at
number_in-some cells c inside =
    ap (λ b. cond b (Some (position_or_len (same_cell c) cells)) None) (lt-ltb _ _ (number_at-within cells c inside))
