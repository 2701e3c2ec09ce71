-- The cells that a line asks for.
--     cell-has           a font's step other than 0 is that of an instance of the fonts of a stock
--     touched-none       asking for nothing changes nothing
--     touched-more       asking for some cells after others is asking for all of them
use Rattle.std.proofs.Common.{◌≡◌, ◌≢◌, ℕ, zero, suc, ◌+◌, ◌-◌, ◌*◌, ◌/◌, ◌%◌, ◌≤◌, refl, ap, sym, ◌∙◌, subst, arith, Bool, true, false, cond, ◌||◌, List, [], ◌∷◌, ◌++◌, map, get_or, Option, Some, None, ℤ, pos, negsuc, neg_ℤ}
use Rattle.std.specs.Prelude.{slice_get, filter, Contains, MatchOption}
use Rattle.std.proofs.lemmas.Int.{ints}
use Rattle.std.proofs.lemmas.List.{length-map, get_or-map}
use Rattle.std.proofs.lemmas.List.Elements.{Contains-append_left, Contains-append_right}
use Rattle.std.proofs.lemmas.Nat.{le-div}
use Rattle.std.proofs.Math.Nat.{div-mul-le_self}
use Rattle.font_stock.specs.declared.expand.Expand.{Expand}
use Rattle.font_stock.specs.declared.font.Font.{Font}
use Rattle.font_stock.specs.Steps.{IsStepOf}
use Rattle.instance_core.specs.declared.cell.Cell.{Cell}
use Rattle.instance_core.specs.declared.font.BaseFont.{BaseFont}
use Rattle.instance_core.specs.Cells.{steps_of, cell_at, cells_from, cells_of, has_cell, same_cell, in_cell_order, IsCellOf}
use Rattle.instance_core.proofs.Steps.{below, above, length-steps_of, steps_of-below, steps_of-above, in_steps}
use Rattle.instance_core.proofs.CellNumbers.{cells_from-cons, same_cell-self}
use Rattle.instance_core.proofs.Marks.{has_cell-filter}
use Rattle.hpack_two.specs.Answers.{touched_with}
use Rattle.hpack_two.specs.Over.{base_of, base_with}
use Rattle.hpack_two.specs.Steps.{IsChosen}
use Rattle.hpack_two.proofs.Fonts.{some-is}

-- ---- steps and cells

-- so many whole steps are at least one, and no more than the limit's
record AreSteps (size limit step : ℕ) : Type 0 where
  some : 1 ≤ size / step
  within : size / step ≤ limit / step
  whole : size / step * step ≡ size
  limit_cut : limit / step * step ≤ limit

are_steps : (size limit step : ℕ) → 1 ≤ step → 1 ≤ size → size ≤ limit → size % step ≡ 0 → AreSteps size limit step
are_steps size limit step some_step some fits whole =
    let is : size ≡ size / step * step = in_steps size step whole in
    let one : 1 ≤ size / step = positive (size / step) is in
    record {
      some = one;
      within = le-div (size / step) limit step some_step (omega (arith, is));
      whole = sym is;
      limit_cut = div-mul-le_self limit step;
    }
  where
    positive : (k : ℕ) → size ≡ k * step → 1 ≤ k
    positive zero is = absurd (omega (arith, is))
    positive (suc k) is = omega arith

wide-has : (f : BaseFont) (size : ℕ) → AreSteps size f.stretch f.step → Contains (steps_of f) (pos size)
wide-has f size are =
    let k : ℕ = f.shrink / f.step + (size / f.step - 1) in
    let long = length-steps_of f in
    let is : get_or (steps_of f) k (pos size) ≡ above f (k - f.shrink / f.step + 1) =
    steps_of-above f k (pos size) (omega arith) (omega (arith, are.some, are.within)) in
    let place : k - f.shrink / f.step + 1 ≡ size / f.step = omega (arith, are.some) in
    (k, omega (arith, long, are.some, are.within), is ∙ ap (λ (n : ℕ). pos (n * f.step)) place ∙ ap pos are.whole)

narrow-has : (f : BaseFont) (size : ℕ) → f.shrink % f.step ≡ 0 → AreSteps size f.shrink f.step → Contains (steps_of f) (neg_ℤ (pos size))
narrow-has f size whole are =
    let k : ℕ = f.shrink / f.step - size / f.step in
    let long = length-steps_of f in
    let is : get_or (steps_of f) k (neg_ℤ (pos size)) ≡ below f k = steps_of-below f k (neg_ℤ (pos size)) (omega (arith, are.some, are.within)) in
    let limit : f.shrink ≡ f.shrink / f.step * f.step = in_steps f.shrink f.step whole in
    let left : f.shrink - k * f.step ≡ size = less (f.shrink / f.step) (size / f.step) k f.step f.shrink size refl limit are.whole are.within in
    (k, omega (arith, long, are.some, are.within), is ∙ ap (λ (n : ℕ). neg_ℤ (pos n)) left)
  where
    add-times : (a b c : ℕ) → (a + b) * c ≡ a * c + b * c
    add-times a b c = grind arith

    less : (most few k step shrink size : ℕ) → k ≡ most - few → shrink ≡ most * step → few * step ≡ size → few ≤ most → shrink - k * step ≡ size
    less most few k step shrink size k_is shrink_is size_is fewer =
        let all : k + few ≡ most = omega (arith, k_is) in
        let product : k * step + few * step ≡ most * step = sym (add-times k few step) ∙ ap (λ (n : ℕ). n * step) all in
        omega (arith, product, shrink_is, size_is)

step-has : (size : ℤ) (widths : List ℤ) (e : Expand) (step : ℤ) → IsStepOf e step → step ≢ pos 0
    → Contains (steps_of (base_with size widths (Some e))) step
step-has size widths e (pos n) is other =
    let some : 1 ≤ n = positive n other in
    wide-has (base_with size widths (Some e)) n (are_steps n e.stretch e.step e.limits.step_starts some (omega (arith, ints, is.high)) is.whole)
  where
    positive : (n : ℕ) → pos n ≢ pos 0 → 1 ≤ n
    positive zero other = absurd (other refl)
    positive (suc n) other = omega arith
step-has size widths e (negsuc n) is other =
    narrow-has (base_with size widths (Some e)) (suc n) e.limits.shrink_whole
    (are_steps (suc n) e.shrink e.step e.limits.step_starts (omega arith) (omega (arith, ints, is.low)) is.whole)

base-has : (size : ℤ) (widths : List ℤ) (expand : Option Expand) (step : ℤ)
    → MatchOption expand (step ≡ pos 0) (λ e. IsStepOf e step) → step ≢ pos 0
    → Contains (steps_of (base_with size widths expand)) step
base-has size widths None step is other = absurd (other is)
base-has size widths (Some e) step is other = step-has size widths e step is other

Contains-map : {X Y : Type 0} (f : X → Y) (xs : List X) (x : X) → Contains xs x → Contains (map f xs) (f x)
Contains-map f xs x (k, inside, is) =
    (k, rw length-map inside, get_or-map f xs k x (f x) inside ∙ ap f is)

cells-has : (fs : List BaseFont) (first k : ℕ) (f : BaseFont) (step : ℤ) → slice_get fs k ≡ Some f → Contains (steps_of f) step
    → Contains (cells_from first fs) (cell_at (first + k) step)
cells-has [] first k f step is has = absurd (cc)
cells-has (g ∷ fs) first zero f step is has =
    let same : g ≡ f = some-is g f is in
    let own : Contains (steps_of g) step = subst (λ (x : BaseFont). Contains (steps_of x) step) (sym same) has in
    let here : Contains (cells_from first (g ∷ fs)) (cell_at first step) =
    rw (cells_from-cons first g fs) (Contains-append_left (map (cell_at first) (steps_of g)) (cells_from (first + 1) fs) (cell_at first step) (Contains-map (cell_at first) (steps_of g) step own)) in
    let number : first ≡ first + 0 = omega arith in
    subst (λ (n : ℕ). Contains (cells_from first (g ∷ fs)) (cell_at n step)) number here
cells-has (g ∷ fs) first (suc k) f step is has =
    let later : Contains (cells_from (first + 1) fs) (cell_at (first + 1 + k) step) = cells-has fs (first + 1) k f step is has in
    let there : Contains (cells_from first (g ∷ fs)) (cell_at (first + 1 + k) step) =
    rw (cells_from-cons first g fs) (Contains-append_right (map (cell_at first) (steps_of g)) (cells_from (first + 1) fs) (cell_at (first + 1 + k) step) later) in
    let number : first + 1 + k ≡ first + suc k = omega arith in
    subst (λ (n : ℕ). Contains (cells_from first (g ∷ fs)) (cell_at n step)) number there

get-map : {X Y : Type 0} (f : X → Y) (xs : List X) (k : ℕ) (x : X) → slice_get xs k ≡ Some x → slice_get (map f xs) k ≡ Some (f x)
get-map f [] k x is = absurd (cc)
get-map f (y ∷ ys) zero x is = ap (λ z. Some (f z)) (some-is y x is)
get-map f (y ∷ ys) (suc k) x is = get-map f ys k x is

pub cell-has : (stock : List Font) (number : ℕ) (step : ℤ) → IsChosen stock number step → step ≢ pos 0
    → IsCellOf (map base_of stock) (cell_at number step)
unfolding base_of
cell-has stock number step known other =
    let font = known.font in
    let has : Contains (steps_of (base_of font)) step = base-has font.size _ font.expand step known.holds other in
    let number_is : 0 + number ≡ number = omega arith in
    subst (λ (n : ℕ). Contains (cells_of (map base_of stock)) (cell_at n step)) number_is
    (cells-has (map base_of stock) 0 number (base_of font) step (get-map base_of stock number font known.is) has)

-- ---- cells in their order

has-append : (xs ys : List Cell) (c : Cell) → has_cell (xs ++ ys) c ≡ (has_cell xs c || has_cell ys c)
has-append [] ys c = refl
has-append (x ∷ xs) ys c = ap (λ b. same_cell c x || b) (has-append xs ys c) ∙ either (same_cell c x) (has_cell xs c) (has_cell ys c)
  where
    either : (a b d : Bool) → (a || (b || d)) ≡ ((a || b) || d)
    either true b d = refl
    either false b d = refl

filter-same : (p q : Cell → Bool) (xs : List Cell) → ((c : Cell) → has_cell xs c ≡ true → p c ≡ q c) → filter p xs ≡ filter q xs
filter-same p q [] same = refl
filter-same p q (x ∷ xs) same =
    let here : p x ≡ q x = same x (ap (λ b. b || has_cell xs x) (same_cell-self x)) in
    let later : filter p xs ≡ filter q xs = filter-same p q xs (λ c inside. same c (more (same_cell c x) (has_cell xs c) inside)) in
    ap (λ b. cond b (x ∷ filter p xs) (filter p xs)) here ∙ ap (λ rest. cond (q x) (x ∷ rest) rest) later
  where
    more : (a b : Bool) → b ≡ true → (a || b) ≡ true
    more true b inside = refl
    more false b inside = inside

pub touched-none : (bases : List BaseFont) (before : List Cell) → before ≡ in_cell_order bases before → before ≡ touched_with bases [] before
touched-none bases before is = is

pub touched-more : (bases : List BaseFont) (first more before : List Cell)
    → touched_with bases more (touched_with bases first before) ≡ touched_with bases (first ++ more) before
touched-more bases first more before =
    filter-same (has_cell (more ++ in_cell_order bases (first ++ before))) (has_cell ((first ++ more) ++ before)) (cells_of bases)
    (λ c inside.
    has-append more (in_cell_order bases (first ++ before)) c
    ∙ ap (λ b. has_cell more c || b) (has_cell-filter (has_cell (first ++ before)) (cells_of bases) c inside ∙ has-append first before c)
    ∙ swap (has_cell more c) (has_cell first c) (has_cell before c)
    ∙ sym (has-append (first ++ more) before c ∙ ap (λ b. b || has_cell before c) (has-append first more c)))
  where
    swap : (m f b : Bool) → (m || (f || b)) ≡ ((f || m) || b)
    swap true true b = refl
    swap true false b = refl
    swap false true b = refl
    swap false false b = refl
