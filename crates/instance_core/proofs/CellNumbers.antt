-- The numbers of cells: each cell stands at one place of the list of all.
use Rattle.std.proofs.Common.{◌≡◌, ℕ, zero, suc, ◌+◌, ◌-◌, ◌*◌, ◌<◌, ◌≤◌, refl, ap, sym, ◌∙◌, arith, ℤ, pos, neg_ℤ, ◌≤ℤ◌, Bool, true, false, cond, ◌&&◌, eqb, List, [], ◌∷◌, ◌++◌, append_assoc, length, length-append, length-take, map, take, drop, get_or, Option, Some, None, inl, inr}
use Rattle.std.specs.List.{position_from, slice_get, All, Contains}
use Rattle.std.proofs.lemmas.Option.{get_or_from_slice_get, slice_get-get_or}
use Rattle.std.specs.Option.{option_map}
use Rattle.std.specs.Ordering.{int_eq}
use Rattle.std.proofs.lemmas.Bool.{cases_lt, eq-eqb, eqb-true}
use Rattle.std.proofs.lemmas.Bool.Decides.{Decides-int_eq}
use Rattle.std.proofs.lemmas.List.{get_or_append_left, get_or-append_right, get_or-map, get_or_at, take_all, take_more, drop_all, drop_more, length-map}
use Rattle.std.proofs.lemmas.List.Elements.{All-head, All-tail, All-take, All-get_or}
use Rattle.instance_core.specs.declared.cell.Cell.{Cell}
use Rattle.instance_core.specs.declared.font.BaseFont.{BaseFont}
use Rattle.instance_core.specs.Bases.{IsBase, AreBases}
use Rattle.instance_core.specs.Numbered.{AreNumbered}
use Rattle.instance_core.specs.Cells.{steps_of, cell_at, cells_from, cells_of, same_cell, number_of, place_of}
use Rattle.instance_core.proofs.Positions.{position_from-append_found, position_from-append_none, position_from-map, position_from-later, position_from-passes}
use Rattle.instance_core.proofs.Steps.{place_of-each, count_is, length-steps_of, step_within}

-- one font's cells and those of the fonts after it
pub cells_from-cons : (first : ℕ) (f : BaseFont) (fs : List BaseFont)
    → cells_from first (f ∷ fs) ≡ map (cell_at first) (steps_of f) ++ cells_from (first + 1) fs
unfolding cells_from
cells_from-cons first f fs = refl

pub cells_from-append : (first : ℕ) (fs gs : List BaseFont)
    → cells_from first (fs ++ gs) ≡ cells_from first fs ++ cells_from (first + length fs) gs
unfolding cells_from
cells_from-append first [] gs = ap (λ n. cells_from n gs) (omega arith)
cells_from-append first (f ∷ fs) gs =
    ap (λ rest. map (cell_at first) (steps_of f) ++ rest)
    (cells_from-append (first + 1) fs gs ∙ ap (λ n. cells_from (first + 1) fs ++ cells_from n gs) (omega arith))
    ∙ sym (append_assoc (map (cell_at first) (steps_of f)) (cells_from (first + 1) fs) _)

-- a cell against those of one font
in_font : (c : Cell) (first start : ℕ) (steps : List ℤ) → c.font ≡ first
    → position_from (same_cell c) start (map (cell_at first) steps) ≡ position_from (int_eq c.step) start steps
in_font c first start steps same =
    position_from-map (same_cell c) (int_eq c.step) (cell_at first)
    (λ step. ap (λ b. b && int_eq c.step step) (eq-eqb c.font first same)) steps start

not_in_font : (c : Cell) (first start : ℕ) (steps : List ℤ) → (c.font ≡ first → ⊥)
    → position_from (same_cell c) start (map (cell_at first) steps) ≡ None
not_in_font c first start [] other = refl
not_in_font c first start (step ∷ steps) other =
    apart (eqb c.font first) (λ same. other (eqb-true c.font first same)) (not_in_font c first (start + 1) steps other)
  where
    apart : (b : Bool) → (b ≡ true → ⊥) → position_from (same_cell c) (start + 1) (map (cell_at first) steps) ≡ None
        → cond (b && int_eq c.step step) (Some start) (position_from (same_cell c) (start + 1) (map (cell_at first) steps)) ≡ None
    apart true never rest = absurd (never refl)
    apart false never rest = rest

-- a cell of a font that isn't there
pub cells_from-no_font : (fs : List BaseFont) (c : Cell) (first start : ℕ)
    → ((k : ℕ) → k < length fs → c.font ≡ first + k → ⊥) → position_from (same_cell c) start (cells_from first fs) ≡ None
unfolding cells_from
cells_from-no_font [] c first start apart = refl
cells_from-no_font (f ∷ fs) c first start apart =
    position_from-append_none (same_cell c) (map (cell_at first) (steps_of f)) (cells_from (first + 1) fs) start
    (not_in_font c first start (steps_of f) (λ same. apart 0 (omega arith) (omega arith)))
    ∙ cells_from-no_font fs c (first + 1) _ (λ k below same. apart (suc k) (omega arith) (omega arith))

-- a cell of a font has its place among the font's, after the cells of the fonts before
pub cells_from-font : (fs : List BaseFont) (k : ℕ) (c : Cell) (first start : ℕ) (d : BaseFont) → k < length fs → c.font ≡ first + k
    → position_from (same_cell c) start (cells_from first fs)
    ≡ position_from (int_eq c.step) (start + length (cells_from first (take k fs))) (steps_of (get_or fs k d))
unfolding cells_from
cells_from-font [] k c first start d below is = absurd (omega arith)
cells_from-font (f ∷ fs) zero c first start d below is =
    found (position_from (int_eq c.step) start (steps_of f)) refl ∙ ap (λ n. position_from (int_eq c.step) n (steps_of f)) (omega arith)
  where
    found : (o : Option ℕ) → position_from (int_eq c.step) start (steps_of f) ≡ o
        → position_from (same_cell c) start (map (cell_at first) (steps_of f) ++ cells_from (first + 1) fs) ≡ position_from (int_eq c.step) start (steps_of f)
    found (Some n) o_is =
        position_from-append_found (same_cell c) _ (cells_from (first + 1) fs) start n (in_font c first start (steps_of f) (omega arith) ∙ o_is) ∙ sym o_is
    found None o_is =
        position_from-append_none (same_cell c) _ (cells_from (first + 1) fs) start (in_font c first start (steps_of f) (omega arith) ∙ o_is)
        ∙ cells_from-no_font fs c (first + 1) _ (λ k below same. omega arith) ∙ sym o_is
cells_from-font (f ∷ fs) (suc k) c first start d below is =
    position_from-append_none (same_cell c) (map (cell_at first) (steps_of f)) (cells_from (first + 1) fs) start
    (not_in_font c first start (steps_of f) (λ same. omega arith))
    ∙ cells_from-font fs k c (first + 1) _ d (omega arith) (omega arith)
    ∙ ap (λ n. position_from (int_eq c.step) n (steps_of (get_or fs k d)))
    (let both = length-append (map (cell_at first) (steps_of f)) (cells_from (first + 1) (take k fs)) in omega (arith, both))

-- the font of a cell in the list
font_from : (fs : List BaseFont) (first n : ℕ) (d : Cell) → n < length (cells_from first fs)
    → first ≤ (get_or (cells_from first fs) n d).font
unfolding cells_from
font_from [] first n d inside = absurd (omega arith)
font_from (f ∷ fs) first n d inside =
    elim (cases_lt n (length (map (cell_at first) (steps_of f)))) [
      | inl low ↦
          let inner : n < length (steps_of f) = rw (length-map (steps_of f) (cell_at first)) at low in
          let is : get_or (map (cell_at first) (steps_of f) ++ cells_from (first + 1) fs) n d ≡ cell_at first (get_or (steps_of f) n (pos 0)) =
          get_or_append_left _ (cells_from (first + 1) fs) d n low ∙ get_or-map (cell_at first) (steps_of f) n (pos 0) d inner in
          let font : (get_or (map (cell_at first) (steps_of f) ++ cells_from (first + 1) fs) n d).font ≡ first = ap (λ (x : Cell). x.font) is in
          omega (arith, font)
      | inr high ↦
          let both = length-append (map (cell_at first) (steps_of f)) (cells_from (first + 1) fs) in
          let is : get_or (map (cell_at first) (steps_of f) ++ cells_from (first + 1) fs) n d ≡ get_or (cells_from (first + 1) fs) (n - length (map (cell_at first) (steps_of f))) d =
          get_or-append_right (map (cell_at first) (steps_of f)) (cells_from (first + 1) fs) _ n d refl high in
          let font : (get_or (map (cell_at first) (steps_of f) ++ cells_from (first + 1) fs) n d).font ≡ (get_or (cells_from (first + 1) fs) (n - length (map (cell_at first) (steps_of f))) d).font = ap (λ (x : Cell). x.font) is in
          let later = font_from fs (first + 1) (n - length (map (cell_at first) (steps_of f))) d (omega (arith, both)) in
          omega (arith, font, later)
    ]

-- the number of the cell at a number
pub number_from-each : (fs : List BaseFont) (first start n : ℕ) (d : Cell) → All IsBase fs → n < length (cells_from first fs)
    → position_from (same_cell (get_or (cells_from first fs) n d)) start (cells_from first fs) ≡ Some (start + n)
unfolding cells_from
number_from-each [] first start n d bases inside = absurd (omega arith)
number_from-each (f ∷ fs) first start n d bases inside =
    elim (cases_lt n (length (map (cell_at first) (steps_of f)))) [
      | inl low ↦
          let inner : n < length (steps_of f) = rw (length-map (steps_of f) (cell_at first)) at low in
          let is : get_or (map (cell_at first) (steps_of f) ++ cells_from (first + 1) fs) n d ≡ cell_at first (get_or (steps_of f) n (pos 0)) =
          get_or_append_left _ (cells_from (first + 1) fs) d n low ∙ get_or-map (cell_at first) (steps_of f) n (pos 0) d inner in
          ap (λ (c : Cell). position_from (same_cell c) start (map (cell_at first) (steps_of f) ++ cells_from (first + 1) fs)) is
          ∙ position_from-append_found (same_cell (cell_at first (get_or (steps_of f) n (pos 0)))) (map (cell_at first) (steps_of f)) (cells_from (first + 1) fs) start (start + n)
          (in_font (cell_at first (get_or (steps_of f) n (pos 0))) first start (steps_of f) refl
          ∙ place_of-each f n (pos 0) start (All-head IsBase f fs bases) inner)
      | inr high ↦
          let both = length-append (map (cell_at first) (steps_of f)) (cells_from (first + 1) fs) in
          let later : n - length (map (cell_at first) (steps_of f)) < length (cells_from (first + 1) fs) = omega (arith, both) in
          let is : get_or (map (cell_at first) (steps_of f) ++ cells_from (first + 1) fs) n d ≡ get_or (cells_from (first + 1) fs) (n - length (map (cell_at first) (steps_of f))) d =
          get_or-append_right (map (cell_at first) (steps_of f)) (cells_from (first + 1) fs) _ n d refl high in
          let from = font_from fs (first + 1) (n - length (map (cell_at first) (steps_of f))) d later in
          ap (λ (c : Cell). position_from (same_cell c) start (map (cell_at first) (steps_of f) ++ cells_from (first + 1) fs)) is
          ∙ position_from-append_none _ (map (cell_at first) (steps_of f)) (cells_from (first + 1) fs) start
          (not_in_font _ first start (steps_of f) (λ same. omega (arith, from, same)))
          ∙ number_from-each fs (first + 1) _ _ d (All-tail IsBase f fs bases) later
          ∙ ap Some (omega arith)
    ]

-- the cell at a number has the number, and no other cell has it
pub number_of-each : (fs : List BaseFont) (n : ℕ) (d : Cell) → All IsBase fs → n < length (cells_of fs)
    → number_of fs (get_or (cells_of fs) n d) ≡ Some n
number_of-each fs n d bases inside = number_from-each fs 0 0 n d bases inside ∙ ap Some (omega arith)

pub same_cell-is : (a b : Cell) → same_cell a b ≡ true → a ≡ b
same_cell-is a b same =
    let font : a.font ≡ b.font = eqb-true a.font b.font (first_of (eqb a.font b.font) (int_eq a.step b.step) same) in
    let step : a.step ≡ b.step = (Decides-int_eq a.step b.step).0 (second_of (eqb a.font b.font) (int_eq a.step b.step) same) in
    λ i. record { font = font i; step = step i }
  where
    first_of : (p q : Bool) → p && q ≡ true → p ≡ true
    first_of true q both = refl
    first_of false q both = both

    second_of : (p q : Bool) → p && q ≡ true → q ≡ true
    second_of true q both = both
    second_of false q both = absurd (cc)

pub same_cell-self : (a : Cell) → same_cell a a ≡ true
same_cell-self a =
    ap (λ b. b && int_eq a.step a.step) (eq-eqb a.font a.font refl) ∙ (Decides-int_eq a.step a.step).1 refl

pub number_of-cell : (fs : List BaseFont) (c : Cell) (n : ℕ) (d : Cell) → number_of fs c ≡ Some n
    → (n < length (cells_of fs)) × (get_or (cells_of fs) n d ≡ c)
number_of-cell fs c n d found =
    let passes = position_from-passes (same_cell c) (cells_of fs) 0 n d found in
    let whole : n - 0 ≡ n = omega arith in
    (omega (arith, passes.1), sym (same_cell-is c _ (rw whole at passes.2)))

-- at most 128 cells a font
pub length-cells_from : (fs : List BaseFont) (first : ℕ) → All IsBase fs → length (cells_from first fs) ≤ 128 * length fs
unfolding cells_from
length-cells_from [] first bases = omega arith
length-cells_from (f ∷ fs) first bases =
    let both = length-append (map (cell_at first) (steps_of f)) (cells_from (first + 1) fs) in
    let one = length-map (steps_of f) (cell_at first) in
    let steps = length-steps_of f in
    let few = count_is f (All-head IsBase f fs bases) in
    let rest = length-cells_from fs (first + 1) (All-tail IsBase f fs bases) in
    omega (arith, both, one, steps, few, rest)

pub length-cells_of_few : (fs : List BaseFont) (k : ℕ) → All IsBase fs → length fs ≤ 32 → length (cells_of (take k fs)) ≤ 4096
length-cells_of_few fs k bases few =
    let part = length-cells_from (take k fs) 0 (All-take IsBase k fs bases) in
    let size = length-take k fs in
    omega (arith, part, size)

-- the cells of one more font
pub length-cells_more : (fs : List BaseFont) (k : ℕ) (d : BaseFont) → k < length fs
    → length (cells_of (take (k + 1) fs)) ≡ length (cells_of (take k fs)) + length (steps_of (get_or fs k d))
unfolding cells_from
length-cells_more fs k d inside =
    ap (λ part. length (cells_of part)) (take_more fs k d inside)
    ∙ ap length (cells_from-append 0 (take k fs) (get_or fs k d ∷ []))
    ∙ length-append (cells_of (take k fs)) _
    ∙ ap (λ n. length (cells_of (take k fs)) + n)
    (let both = length-append (map (cell_at (0 + length (take k fs))) (steps_of (get_or fs k d))) [] in
    omega (arith, both, length-map (steps_of (get_or fs k d)) (cell_at (0 + length (take k fs)))))

-- the first numbers of one more font
pub firsts_more : (fs : List BaseFont) (firsts : List ℕ) (cells i : ℕ) → length firsts ≡ i
    → ((k : ℕ) → k < i → get_or firsts k 0 ≡ length (cells_of (take k fs))) → cells ≡ length (cells_of (take i fs))
    → (k : ℕ) → k < i + 1 → get_or (firsts ++ cells ∷ []) k 0 ≡ length (cells_of (take k fs))
firsts_more fs firsts cells i count before all k below =
    elim (cases_lt k i) [
      | inl low ↦ get_or_append_left firsts (cells ∷ []) 0 k (omega arith) ∙ before k low
      | inr high ↦
          let last : k ≡ i = omega arith in
          get_or_at firsts cells [] 0 k (omega arith) ∙ all ∙ ap (λ n. length (cells_of (take n fs))) (sym last)
    ]

-- what was counted of all fonts
pub AreNumbered-all : (fs gs : List BaseFont) (firsts ns : List ℕ) (cells i : ℕ) → AreBases fs → gs ≡ fs → ns ≡ firsts
    → i ≡ length fs → length firsts ≡ i → ((k : ℕ) → k < i → get_or firsts k 0 ≡ length (cells_of (take k fs)))
    → cells ≡ length (cells_of (take i fs)) → AreNumbered gs ns cells
AreNumbered-all fs gs firsts ns cells i bases fonts_is firsts_is end count first all =
    let whole : take i fs ≡ fs = take_all i fs (omega arith) in
    rw (fonts_is, firsts_is) (record {
      bases = bases;
      count = count ∙ end;
      first = λ k below. first k (omega arith);
      all = all ∙ ap (λ part. length (cells_of part)) whole;
    })

-- the number of a cell by its font and its place in the font
pub number_of-font : (fs : List BaseFont) (k : ℕ) (c : Cell) (d : BaseFont) → k < length fs → c.font ≡ k
    → number_of fs c ≡ option_map (λ n. length (cells_of (take k fs)) + n) (place_of (get_or fs k d) c.step)
number_of-font fs k c d below is =
    cells_from-font fs k c 0 0 d below (omega arith)
    ∙ ap (λ n. position_from (int_eq c.step) n (steps_of (get_or fs k d))) (omega arith)
    ∙ position_from-later (int_eq c.step) (steps_of (get_or fs k d)) 0 (length (cells_of (take k fs)))

pub number_of-no_font : (fs : List BaseFont) (c : Cell) → length fs ≤ c.font → number_of fs c ≡ None
number_of-no_font fs c past = cells_from-no_font fs c 0 0 (λ k below same. omega arith)

-- the cell at a place of the first font, and past it
slice_get-left : {X : Type 0} (xs ys : List X) (n : ℕ) → n < length xs → slice_get (xs ++ ys) n ≡ slice_get xs n
slice_get-left [] ys n inside = absurd (omega arith)
slice_get-left (x ∷ xs) ys zero inside = refl
slice_get-left (x ∷ xs) ys (suc n) inside = slice_get-left xs ys n (omega arith)

slice_get-right : {X : Type 0} (xs ys : List X) (n : ℕ) → length xs ≤ n → slice_get (xs ++ ys) n ≡ slice_get ys (n - length xs)
slice_get-right [] ys n past = ap (slice_get ys) (omega arith)
slice_get-right (x ∷ xs) ys zero past = absurd (omega arith)
slice_get-right (x ∷ xs) ys (suc n) past = slice_get-right xs ys n (omega arith) ∙ ap (slice_get ys) (omega arith)

slice_get-map : {X Y : Type 0} (f : X → Y) (xs : List X) (n : ℕ) (x : X) → slice_get xs n ≡ Some x → slice_get (map f xs) n ≡ Some (f x)
slice_get-map f [] n x found = absurd (cc)
slice_get-map f (y ∷ xs) zero x found = let same : y ≡ x = some_same found in ap (λ z. Some (f z)) same
  where
    some_same : Some y ≡ Some x → y ≡ x
    some_same same = cc
slice_get-map f (y ∷ xs) (suc n) x found = slice_get-map f xs n x found

pub cell-here : (f : BaseFont) (fs : List BaseFont) (first place : ℕ) (step : ℤ) → place < length (steps_of f)
    → slice_get (steps_of f) place ≡ Some step → slice_get (cells_from first (f ∷ fs)) place ≡ Some (cell_at first step)
cell-here f fs first place step inside found =
    ap (λ cells. slice_get cells place) (cells_from-cons first f fs)
    ∙ slice_get-left (map (cell_at first) (steps_of f)) (cells_from (first + 1) fs) place (rw length-map inside)
    ∙ slice_get-map (cell_at first) (steps_of f) place step found

pub cell-later : (f : BaseFont) (fs : List BaseFont) (first place : ℕ) → length (steps_of f) ≤ place
    → slice_get (cells_from first (f ∷ fs)) place ≡ slice_get (cells_from (first + 1) fs) (place - length (steps_of f))
cell-later f fs first place past =
    ap (λ cells. slice_get cells place) (cells_from-cons first f fs)
    ∙ slice_get-right (map (cell_at first) (steps_of f)) (cells_from (first + 1) fs) place (rw length-map past)
    ∙ ap (λ n. slice_get (cells_from (first + 1) fs) (place - n)) (length-map (steps_of f) (cell_at first))

pub length-later : (f : BaseFont) (fs : List BaseFont) (first : ℕ)
    → length (cells_from first (f ∷ fs)) ≡ length (steps_of f) + length (cells_from (first + 1) fs)
length-later f fs first =
    ap length (cells_from-cons first f fs) ∙ length-append (map (cell_at first) (steps_of f)) (cells_from (first + 1) fs)
    ∙ ap (λ n. n + length (cells_from (first + 1) fs)) (length-map (steps_of f) (cell_at first))

-- what is found at a number has it
pub number_of-found : (fs : List BaseFont) (n : ℕ) (c : Cell) → All IsBase fs → n < length (cells_of fs)
    → slice_get (cells_of fs) n ≡ Some c → number_of fs c ≡ Some n
number_of-found fs n c bases inside found =
    ap (number_of fs) (sym (get_or_from_slice_get (cells_of fs) n c c found)) ∙ number_of-each fs n c bases inside

pub cell-found : (fs : List BaseFont) (c : Cell) (n : ℕ) → number_of fs c ≡ Some n → slice_get (cells_of fs) n ≡ Some c
cell-found fs c n found =
    let at = number_of-cell fs c n c found in
    slice_get-get_or (cells_of fs) n c at.0 ∙ ap Some at.1

pub number_of-place : (fs : List BaseFont) (k : ℕ) (c : Cell) (d : BaseFont) (first place : ℕ) → k < length fs → c.font ≡ k
    → first ≡ length (cells_of (take k fs)) → place_of (get_or fs k d) c.step ≡ Some place → number_of fs c ≡ Some (first + place)
number_of-place fs k c d first place below is first_is found =
    number_of-font fs k c d below is
    ∙ ap (option_map (λ n. length (cells_of (take k fs)) + n)) found
    ∙ ap (λ n. Some (n + place)) (sym first_is)

pub number_of-no_place : (fs : List BaseFont) (k : ℕ) (c : Cell) (d : BaseFont) → k < length fs → c.font ≡ k
    → place_of (get_or fs k d) c.step ≡ None → number_of fs c ≡ None
number_of-no_place fs k c d below is none =
    number_of-font fs k c d below is ∙ ap (option_map (λ n. length (cells_of (take k fs)) + n)) none

pub number_of-few : (fs : List BaseFont) (c : Cell) (n : ℕ) → All IsBase fs → length fs ≤ 32 → number_of fs c ≡ Some n → n < 4096
number_of-few fs c n bases few found =
    let within = (number_of-cell fs c n c found).0 in
    let all = length-cells_from fs 0 bases in
    omega (arith, within, all)

-- a walk over the fonts: at one more font, and at the last
pub cells-walk : (fs : List BaseFont) (i place : ℕ) (d : BaseFont) → i < length fs → length (steps_of (get_or fs i d)) ≤ place
    → (place < length (cells_from i (drop i fs)))
    → (place - length (steps_of (get_or fs i d)) < length (cells_from (i + 1) (drop (i + 1) fs)))
    × (slice_get (cells_from i (drop i fs)) place ≡ slice_get (cells_from (i + 1) (drop (i + 1) fs)) (place - length (steps_of (get_or fs i d))))
cells-walk fs i place d below past within =
    let rest : drop i fs ≡ get_or fs i d ∷ drop (i + 1) fs = drop_more fs i d below in
    let all : length (cells_from i (drop i fs)) ≡ length (steps_of (get_or fs i d)) + length (cells_from (i + 1) (drop (i + 1) fs)) =
    ap (λ gs. length (cells_from i gs)) rest ∙ length-later (get_or fs i d) (drop (i + 1) fs) i in (
      omega (arith, all, past, within),
      ap (λ gs. slice_get (cells_from i gs) place) rest ∙ cell-later (get_or fs i d) (drop (i + 1) fs) i place past,
    )

pub cells-walk_here : (fs : List BaseFont) (i place : ℕ) (d : BaseFont) (step : ℤ) → i < length fs → place < length (steps_of (get_or fs i d))
    → slice_get (steps_of (get_or fs i d)) place ≡ Some step → slice_get (cells_from i (drop i fs)) place ≡ Some (cell_at i step)
cells-walk_here fs i place d step below inside found =
    ap (λ gs. slice_get (cells_from i gs) place) (drop_more fs i d below) ∙ cell-here (get_or fs i d) (drop (i + 1) fs) i place step inside found

pub cells-walk_end : (fs : List BaseFont) (i place : ℕ) → length fs ≤ i → place < length (cells_from i (drop i fs)) → ⊥
unfolding cells_from
cells-walk_end fs i place past within =
    let none : length (cells_from i (drop i fs)) ≡ 0 = ap (λ gs. length (cells_from i gs)) (drop_all i fs past) in
    omega (arith, none)

-- a cell of the list has a number, a font and a step within its limits
pub number_of-some : (fs : List BaseFont) (c : Cell) → All IsBase fs → Contains (cells_of fs) c
    → (n : ℕ) × (n < length (cells_of fs)) × (number_of fs c ≡ Some n) × (get_or (cells_of fs) n c ≡ c)
number_of-some fs c bases inside =
    (inside.0, inside.1, ap (number_of fs) (sym inside.2) ∙ number_of-each fs inside.0 c bases inside.1, inside.2)

pub record IsInFont (fs : List BaseFont) (c : Cell) (d : BaseFont) : Type 0 where
  pub font : c.font < length fs
  pub low : neg_ℤ (pos (get_or fs c.font d).shrink) ≤ℤ c.step
  pub high : c.step ≤ℤ pos (get_or fs c.font d).stretch

pub none_some : (n : ℕ) → None ≡ Some n → ⊥
none_some n same = cc

in_font_at : (fs : List BaseFont) (c : Cell) (d : BaseFont) (n : ℕ) → All IsBase fs → number_of fs c ≡ Some n → c.font < length fs
    → (o : Option ℕ) → place_of (get_or fs c.font d) c.step ≡ o → IsInFont fs c d
in_font_at fs c d n bases found below None none =
    absurd (none_some n (sym (number_of-no_place fs c.font c d below refl none) ∙ found))
in_font_at fs c d n bases found below (Some place) is =
    let passes = position_from-passes (int_eq c.step) (steps_of (get_or fs c.font d)) 0 place (pos 0) is in
    let step : c.step ≡ get_or (steps_of (get_or fs c.font d)) (place - 0) (pos 0) = (Decides-int_eq c.step (get_or (steps_of (get_or fs c.font d)) (place - 0) (pos 0))).0 passes.2 in
    let within = step_within (get_or fs c.font d) (place - 0) (pos 0) (All-get_or IsBase fs c.font d below bases) passes.1 in
    record { font = below; low = rw step within.0; high = rw step within.1 }

pub in_font-of : (fs : List BaseFont) (c : Cell) (d : BaseFont) → All IsBase fs → Contains (cells_of fs) c → IsInFont fs c d
in_font-of fs c d bases inside =
    let some = number_of-some fs c bases inside in
    elim (cases_lt c.font (length fs)) [
      | inl below ↦ in_font_at fs c d some.0 bases some.2 below (place_of (get_or fs c.font d) c.step) refl
      | inr past ↦ absurd (none_some some.0 (sym (number_of-no_font fs c past) ∙ some.2))
    ]

-- the same of the fonts as they are read
pub in_font-read : (fs now read : List BaseFont) (firsts : List ℕ) (cells : ℕ) (c : Cell) (d : BaseFont) → AreNumbered fs firsts cells
    → fs ≡ now → read ≡ fs → Contains (cells_of now) c → IsInFont read c d
in_font-read fs now read firsts cells c d numbered now_is read_is inside =
    rw read_is (in_font-of fs c d numbered.bases.each (rw (← now_is) at inside))
