-- The cells of a table's owners are those that its last seat has seen, in cell order.
use Rattle.std.proofs.Common.{◌≡◌, ◌≢◌, ◌⊎◌, ℕ, zero, suc, ◌+◌, ◌<◌, ◌≤◌, refl, ap, sym, ◌∙◌, subst, arith, Bool, true, false, cond, ◌||◌, List, [], ◌∷◌, ◌++◌, map, take, length, get_or, replicate, eqb, pos, eq-eqb, ne_eqb, Option, Some, None, All, Contains, inl, inr}
use Rattle.std.specs.List.{filter}
use Rattle.std.proofs.lemmas.List.{map-append, take_all}
use Rattle.std.proofs.lemmas.List.Elements.{All-head, All-tail, filter_more}
use mathlib.Core.Logic.{dite}
use native.Mathlib.Decide.{ℕ_discrete}
use Rattle.instance_core.specs.declared.cell.Cell.{Cell}
use Rattle.instance_core.specs.declared.font.BaseFont.{BaseFont}
use Rattle.instance_core.specs.declared.page.Owner.{Owner}
use Rattle.instance_core.specs.Bases.{IsBase}
use Rattle.instance_core.specs.Cells.{cells_of, cell_at, same_cell, number_of, has_cell, in_cell_order}
use Rattle.instance_core.proofs.CellNumbers.{number_of-each, same_cell-is, same_cell-self}
use Rattle.instance_table.specs.declared.view.Claimed.{Claimed}
use Rattle.instance_table.specs.Closing.{claims_on, claims_below, owner_of, owners_of}
use Rattle.instance_table.specs.Places.{cell_count, cell_of_number}
use Rattle.instance_table.specs.Rule.{claims_in}
use Rattle.instance_table.specs.Totals.{one_if}
use Rattle.instance_table.proofs.OwnerLemmas.{one_more, Contains-head, Contains-later, Contains-cases}
use Rattle.instance_table.proofs.TotalLemmas.{one_if-eq, one_if-other}

same_some : (a b : ℕ) → Some a ≡ Some b → a ≡ b
same_some a b same = cc

or_true : (b c : Bool) → c ≡ true → b || c ≡ true
or_true true c e = refl
or_true false c e = e

or_false : (b c : Bool) → b ≡ false → c ≡ false → b || c ≡ false
or_false b c e f = ap (λ x. x || c) e ∙ f

module _ (bases : List BaseFont) (each : All IsBase bases) where
  f : ℕ → Cell
  f n = cell_of_number bases n

  same_number : (n s : ℕ) → n < cell_count bases → s < cell_count bases → cell_of_number bases n ≡ cell_of_number bases s → n ≡ s
  unfolding cell_count cell_of_number
  same_number n s here there is =
      same_some n s
      (sym (number_of-each bases n (cell_at 0 (pos 0)) each here) ∙ (ap (number_of bases) is ∙ number_of-each bases s (cell_at 0 (pos 0)) each there))

  has_seen : (seen : List ℕ) (n : ℕ) → Contains seen n → has_cell (map (cell_of_number bases) seen) (cell_of_number bases n) ≡ true
  has_seen [] n inside = let h = inside.1 in absurd (omega arith)
  has_seen (s ∷ ss) n inside =
      let rest = has_cell (map (cell_of_number bases) ss) (cell_of_number bases n) in
      elim (Contains-cases s ss n inside) [
        | inl same ↦
            ap (λ b. b || rest)
            (ap (λ (x : ℕ). same_cell (cell_of_number bases n) (cell_of_number bases x)) same ∙ same_cell-self (cell_of_number bases n))
        | inr later ↦
            or_true (same_cell (cell_of_number bases n) (cell_of_number bases s)) rest (has_seen ss n later)
      ]

  apart : (n s : ℕ) → n < cell_count bases → s < cell_count bases → s ≢ n → same_cell (cell_of_number bases n) (cell_of_number bases s) ≡ false
  apart n s here there other = by_test (same_cell (cell_of_number bases n) (cell_of_number bases s)) refl
    where
      by_test : (b : Bool) → same_cell (cell_of_number bases n) (cell_of_number bases s) ≡ b
          → same_cell (cell_of_number bases n) (cell_of_number bases s) ≡ false
      by_test false e = e
      by_test true e =
          absurd (other (sym (same_number n s here there (same_cell-is (cell_of_number bases n) (cell_of_number bases s) e))))

  not_seen : (seen : List ℕ) (n : ℕ) → All (λ c. c < cell_count bases) seen → n < cell_count bases → (Contains seen n → ⊥)
      → has_cell (map (cell_of_number bases) seen) (cell_of_number bases n) ≡ false
  not_seen [] n below here none = refl
  not_seen (s ∷ ss) n below here none =
      or_false (same_cell (cell_of_number bases n) (cell_of_number bases s)) (has_cell (map (cell_of_number bases) ss) (cell_of_number bases n))
      (apart n s here (All-head (λ c. c < cell_count bases) s ss below)
      (λ same. none (subst (λ (x : ℕ). Contains (s ∷ ss) x) same (Contains-head s ss))))
      (not_seen ss n (All-tail (λ c. c < cell_count bases) s ss below) here (λ inside. none (Contains-later s ss n inside)))

  -- the owners of a cell's claims, as often as it is claimed
  on_cells : (es : List Claimed) (n : ℕ) → map (λ (o : Owner). o.cell) (owners_of bases (claims_on es n)) ≡ replicate (claims_in n es) (cell_of_number bases n)
  on_cells [] n = refl
  on_cells (e ∷ es) n = dite (ℕ_discrete e.cell n)
      (λ same.
      let one : one_if (eqb e.cell n) + claims_in n es ≡ suc (claims_in n es) = let k = one_if-eq e.cell n same in omega arith in
      ap (λ b. map (λ (o : Owner). o.cell) (owners_of bases (cond b (e ∷ claims_on es n) (claims_on es n)))) (eq-eqb e.cell n same)
      ∙ (ap (λ (c : Cell). c ∷ map (λ (o : Owner). o.cell) (owners_of bases (claims_on es n))) (ap (cell_of_number bases) same)
      ∙ (ap (λ (cs : List Cell). cell_of_number bases n ∷ cs) (on_cells es n)
      ∙ ap (λ (k : ℕ). replicate k (cell_of_number bases n)) (sym one))))
      (λ other.
      let none : one_if (eqb e.cell n) + claims_in n es ≡ claims_in n es = let k = one_if-other e.cell n other in omega arith in
      ap (λ b. map (λ (o : Owner). o.cell) (owners_of bases (cond b (e ∷ claims_on es n) (claims_on es n)))) (ne_eqb e.cell n other)
      ∙ (on_cells es n ∙ ap (λ (k : ℕ). replicate k (cell_of_number bases n)) (sym none)))

  module _ (seen : List ℕ) (claims : List Claimed) (below : All (λ c. c < cell_count bases) seen)
      (once : (cell : ℕ) → Contains seen cell → claims_in cell claims ≡ 1)
      (back : (cell : ℕ) → 1 ≤ claims_in cell claims → Contains seen cell) where
    abbrev asked : List Cell
    asked = map (cell_of_number bases) seen

    one_cell : (n : ℕ) → n < cell_count bases
        → map (λ (o : Owner). o.cell) (owners_of bases (claims_on claims n))
        ≡ cond (has_cell asked (cell_of_number bases n)) (cell_of_number bases n ∷ []) []
    one_cell n here = dite (ℕ_discrete (claims_in n claims) 0)
        (λ none.
        on_cells claims n
        ∙ (ap (λ (k : ℕ). replicate k (cell_of_number bases n)) none
        ∙ sym (ap (λ b. cond b (cell_of_number bases n ∷ []) [])
        (not_seen seen n below here (λ inside. let one = once n inside in absurd (omega arith))))))
        (λ some_of.
        let inside = back n (omega arith) in
        on_cells claims n
        ∙ (ap (λ (k : ℕ). replicate k (cell_of_number bases n)) (once n inside)
        ∙ sym (ap (λ b. cond b (cell_of_number bases n ∷ []) []) (has_seen seen n inside))))

    cells_upto : (n : ℕ) → n ≤ cell_count bases
        → map (λ (o : Owner). o.cell) (owners_of bases (claims_below claims n)) ≡ filter (has_cell asked) (take n (cells_of bases))
    unfolding cell_count cell_of_number
    cells_upto zero small = refl
    cells_upto (suc n) small =
        ap (map (λ (o : Owner). o.cell)) (map-append (owner_of bases) (claims_below claims n) (claims_on claims n))
        ∙ (map-append (λ (o : Owner). o.cell) (owners_of bases (claims_below claims n)) (owners_of bases (claims_on claims n))
        ∙ (ap (λ (cs : List Cell). cs ++ map (λ (o : Owner). o.cell) (owners_of bases (claims_on claims n))) (cells_upto n (omega arith))
        ∙ (ap (λ (cs : List Cell). filter (has_cell asked) (take n (cells_of bases)) ++ cs) (one_cell n (omega arith))
        ∙ (sym (filter_more (has_cell asked) (cells_of bases) n (cell_at 0 (pos 0)) (omega arith))
        ∙ ap (λ (k : ℕ). filter (has_cell asked) (take k (cells_of bases))) (one_more n)))))

    pub cells_are : map (λ (o : Owner). o.cell) (owners_of bases (claims_below claims (cell_count bases))) ≡ in_cell_order bases asked
    unfolding cell_count
    cells_are =
        cells_upto (cell_count bases) (omega arith)
        ∙ ap (filter (has_cell asked)) (take_all (length (cells_of bases)) (cells_of bases) (omega arith))
