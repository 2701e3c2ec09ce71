-- The steps of a font's instances, by their places.
use Rattle.std.proofs.Common.{◌≡◌, ℕ, zero, suc, ◌+◌, ◌-◌, ◌*◌, ◌/◌, ◌%◌, ◌<◌, ◌≤◌, refl, ap, sym, ◌∙◌, arith, ℤ, pos, neg_ℤ, ◌≤ℤ◌, length, length-append, map, get_or, Some, None, ◌⊎◌, inl, inr}
use Rattle.std.specs.List.{position_from, range_with_len}
use Rattle.std.specs.Ordering.{int_eq}
use Rattle.std.proofs.lemmas.Bool.{cases_lt}
use Rattle.std.proofs.lemmas.Bool.Decides.{Decides-int_eq}
use Rattle.std.proofs.lemmas.Int.{ints}
use Rattle.std.proofs.lemmas.List.{get_or_append_left, get_or-append_right}
use Rattle.std.proofs.lemmas.List.FromFn.{length-map-range_with_len, get_or-map-range_with_len}
use Rattle.std.proofs.lemmas.Nat.{le-div}
use Rattle.std.proofs.Math.Nat.{div-add-mod, mul-div_cancel, mul-mod_left, mul-le-mul_right, mul-sub, div-mul-le_self}
use Rattle.instance_core.specs.declared.font.BaseFont.{BaseFont}
use Rattle.instance_core.specs.Bases.{IsBase}
use Rattle.instance_core.specs.Cells.{steps_of, place_of}
use Rattle.instance_core.proofs.Positions.{position_from-only, position_from-nowhere}

-- a step that narrows, and one that widens, by its place on its side
abbrev pub below : BaseFont → ℕ → ℤ
below font k = neg_ℤ (pos (font.shrink - k * font.step))

abbrev pub above : BaseFont → ℕ → ℤ
above font k = pos (k * font.step)

pub length-steps_of : (f : BaseFont) → length (steps_of f) ≡ f.shrink / f.step + f.stretch / f.step
unfolding steps_of
length-steps_of f =
    rw (length-append, length-map-range_with_len (below f) 0 (f.shrink / f.step), length-map-range_with_len (above f) 1 (f.stretch / f.step)) refl

pub steps_of-below : (f : BaseFont) (k : ℕ) (d : ℤ) → k < f.shrink / f.step → get_or (steps_of f) k d ≡ below f k
unfolding steps_of
steps_of-below f k d within =
    let inside : k < length (map (below f) (range_with_len 0 (f.shrink / f.step))) =
    rw (length-map-range_with_len (below f) 0 (f.shrink / f.step)) within in
    get_or_append_left _ _ d k inside ∙ get_or-map-range_with_len (below f) 0 (f.shrink / f.step) k k d within (omega arith)

pub steps_of-above : (f : BaseFont) (k : ℕ) (d : ℤ) → f.shrink / f.step ≤ k → k - f.shrink / f.step < f.stretch / f.step
    → get_or (steps_of f) k d ≡ above f (k - f.shrink / f.step + 1)
unfolding steps_of
steps_of-above f k d past within =
    get_or-append_right _ _ (f.shrink / f.step) k d (length-map-range_with_len (below f) 0 (f.shrink / f.step)) past
    ∙ get_or-map-range_with_len (above f) 1 (f.stretch / f.step) (k - f.shrink / f.step) (k - f.shrink / f.step + 1) d within (omega arith)

-- a number of whole steps
pub in_steps : (n s : ℕ) → n % s ≡ 0 → n ≡ n / s * s
in_steps n s whole = omega (arith, div-add-mod n s)

pub same_steps : (i k s : ℕ) → 1 ≤ s → i * s ≡ k * s → i ≡ k
same_steps i k s some same = sym (mul-div_cancel i some) ∙ ap (λ n. n / s) same ∙ mul-div_cancel k some

-- fewer whole steps are less
pub fewer_steps : (k n s : ℕ) → k < n → 1 ≤ s → k * s + s ≤ n * s
fewer_steps k n s fewer some = let product : (k + 1) * s ≤ n * s = mul-le-mul_right s (omega arith) in omega (arith, product)

-- a step that narrows does so by more than nothing
pub narrows : (f : BaseFont) (k : ℕ) → IsBase f → k < f.shrink / f.step → k * f.step + f.step ≤ f.shrink
narrows f k base within =
    omega (arith, fewer_steps k (f.shrink / f.step) f.step within base.some, in_steps f.shrink f.step base.shrink_whole)

-- no two places have the same step
record At (f : BaseFont) (k : ℕ) (step : ℤ) : Type 0 where
  where_it_is : ((k < f.shrink / f.step) × (step ≡ below f k)) ⊎ ((f.shrink / f.step ≤ k) × (step ≡ above f (k - f.shrink / f.step + 1)))

at : (f : BaseFont) (k : ℕ) (d : ℤ) → k < length (steps_of f) → At f k (get_or (steps_of f) k d)
at f k d inside =
    let within : k < f.shrink / f.step + f.stretch / f.step = rw length-steps_of at inside in
    elim (cases_lt k (f.shrink / f.step)) [
      | inl low ↦ record { where_it_is = inl (low, steps_of-below f k d low) }
      | inr high ↦ record { where_it_is = inr (high, steps_of-above f k d high (omega arith)) }
    ]

same_below : (f : BaseFont) (i k : ℕ) → IsBase f → i < f.shrink / f.step → k < f.shrink / f.step → below f i ≡ below f k → i ≡ k
same_below f i k base i_within k_within same =
    let i_narrows = narrows f i base i_within in
    let k_narrows = narrows f k base k_within in
    same_steps i k f.step base.some (omega (arith, ints, base.some))

not_both : (f : BaseFont) (i k : ℕ) → IsBase f → i < f.shrink / f.step → below f i ≡ above f k → ⊥
not_both f i k base within same =
    let narrower = narrows f i base within in
    omega (arith, ints, base.some)

pub steps_differ : (f : BaseFont) (i k : ℕ) (d : ℤ) → IsBase f → i < length (steps_of f) → k < length (steps_of f)
    → get_or (steps_of f) i d ≡ get_or (steps_of f) k d → i ≡ k
steps_differ f i k d base i_inside k_inside same =
    elim ((at f i d i_inside).where_it_is) [
      | inl i_low ↦ elim ((at f k d k_inside).where_it_is) [
        | inl k_low ↦ same_below f i k base i_low.0 k_low.0 (sym i_low.1 ∙ same ∙ k_low.1)
        | inr k_high ↦ absurd (not_both f i _ base i_low.0 (sym i_low.1 ∙ same ∙ k_high.1))
      ]
      | inr i_high ↦ elim ((at f k d k_inside).where_it_is) [
        | inl k_low ↦ absurd (not_both f k _ base k_low.0 (sym k_low.1 ∙ sym same ∙ i_high.1))
        | inr k_high ↦
            let product : (i - f.shrink / f.step + 1) * f.step ≡ (k - f.shrink / f.step + 1) * f.step = omega (arith, ints, sym i_high.1 ∙ same ∙ k_high.1) in
            let place = same_steps (i - f.shrink / f.step + 1) (k - f.shrink / f.step + 1) f.step base.some product in
            omega (arith, i_high.0, k_high.0)
      ]
    ]

-- quotients of whole steps
quotient_le : (m n s : ℕ) → 1 ≤ s → m ≤ n → m / s ≤ n / s
quotient_le m n s some less = le-div (m / s) n s some (omega (arith, div-mul-le_self m s))

difference : (n m a q s : ℕ) → n ≡ a * s → m ≡ q * s → n - m ≡ (a - q) * s
difference n m a q s n_is m_is = let product = mul-sub s a q in omega (arith, product)

has_step : (n s : ℕ) → 0 < n → n % s ≡ 0 → 0 < n / s
has_step n s some whole = positive (n / s) refl
  where
    positive : (q : ℕ) → n / s ≡ q → 0 < q
    positive zero is = let none : n ≡ 0 * s = in_steps n s whole ∙ ap (λ q. q * s) is in absurd (omega (arith, none))
    positive (suc q) is = omega arith

-- the place of the step at a place
pub place_of-each : (f : BaseFont) (k : ℕ) (d : ℤ) (start : ℕ) → IsBase f → k < length (steps_of f)
    → position_from (int_eq (get_or (steps_of f) k d)) start (steps_of f) ≡ Some (start + k)
place_of-each f k d start base inside =
    position_from-only (int_eq (get_or (steps_of f) k d)) (steps_of f) start k d inside
    ((Decides-int_eq (get_or (steps_of f) k d) (get_or (steps_of f) k d)).1 refl)
    (λ i below passes. sym (steps_differ f k i d base inside below ((Decides-int_eq (get_or (steps_of f) k d) (get_or (steps_of f) i d)).0 passes)))

-- the place of a step of a size on either side
pub place_of-below : (f : BaseFont) (size : ℕ) → IsBase f → 0 < size → size % f.step ≡ 0 → size ≤ f.shrink
    → place_of f (neg_ℤ (pos size)) ≡ Some ((f.shrink - size) / f.step)
place_of-below f size base some whole fits =
    let q : size ≡ size / f.step * f.step = in_steps size f.step whole in
    let a : f.shrink ≡ f.shrink / f.step * f.step = in_steps f.shrink f.step base.shrink_whole in
    let fewer : size / f.step ≤ f.shrink / f.step = quotient_le size f.shrink f.step base.some fits in
    let rest : f.shrink - size ≡ (f.shrink / f.step - size / f.step) * f.step = difference _ _ _ _ f.step a q in
    let place : (f.shrink - size) / f.step ≡ f.shrink / f.step - size / f.step =
    ap (λ n. n / f.step) rest ∙ mul-div_cancel (f.shrink / f.step - size / f.step) base.some in
    let positive : 0 < size / f.step = has_step size f.step some whole in
    let within : (f.shrink - size) / f.step < f.shrink / f.step = omega (arith, place) in
    let here : get_or (steps_of f) ((f.shrink - size) / f.step) (pos 0) ≡ neg_ℤ (pos size) =
    steps_of-below f _ (pos 0) within ∙ ap (λ n. neg_ℤ (pos n)) (left_over f.shrink size f.step (f.shrink / f.step - size / f.step) place rest fits) in
    let inside : (f.shrink - size) / f.step < length (steps_of f) = rw length-steps_of (omega arith) in
    ap (λ s. position_from (int_eq s) 0 (steps_of f)) (sym here) ∙ place_of-each f _ (pos 0) 0 base inside ∙ ap Some (omega arith)
  where
    left_over : (shrink size s n : ℕ) → (shrink - size) / s ≡ n → shrink - size ≡ n * s → size ≤ shrink → shrink - (shrink - size) / s * s ≡ size
    left_over shrink size s n is product fits = rw (is, ← product) (omega arith)

pub place_of-above : (f : BaseFont) (size : ℕ) → IsBase f → 0 < size → size % f.step ≡ 0 → size ≤ f.stretch
    → place_of f (pos size) ≡ Some (f.shrink / f.step + size / f.step - 1)
place_of-above f size base some whole fits =
    let q : size ≡ size / f.step * f.step = in_steps size f.step whole in
    let fewer : size / f.step ≤ f.stretch / f.step = quotient_le size f.stretch f.step base.some fits in
    let positive : 0 < size / f.step = has_step size f.step some whole in
    let place : f.shrink / f.step + size / f.step - 1 - f.shrink / f.step + 1 ≡ size / f.step = omega arith in
    let here : get_or (steps_of f) (f.shrink / f.step + size / f.step - 1) (pos 0) ≡ pos size =
    steps_of-above f _ (pos 0) (omega arith) (omega arith) ∙ ap (λ n. pos (n * f.step)) place ∙ ap pos (sym q) in
    let inside : f.shrink / f.step + size / f.step - 1 < length (steps_of f) = rw length-steps_of (omega arith) in
    ap (λ s. position_from (int_eq s) 0 (steps_of f)) (sym here) ∙ place_of-each f _ (pos 0) 0 base inside ∙ ap Some (omega arith)

-- and a step that the font has on neither side
pub place_of-none : (f : BaseFont) (step : ℤ) → ((k : ℕ) → k < f.shrink / f.step → step ≡ below f k → ⊥)
    → ((k : ℕ) → 1 ≤ k → k ≤ f.stretch / f.step → step ≡ above f k → ⊥) → place_of f step ≡ None
place_of-none f step not_below not_above =
    position_from-nowhere (int_eq step) (steps_of f) 0 (pos 0)
    (λ k inside passes.
    let is : step ≡ get_or (steps_of f) k (pos 0) = (Decides-int_eq step (get_or (steps_of f) k (pos 0))).0 passes in
    let within : k < f.shrink / f.step + f.stretch / f.step = rw length-steps_of at inside in
    elim ((at f k (pos 0) inside).where_it_is) [
      | inl low ↦ not_below k low.0 (is ∙ low.1)
      | inr high ↦ not_above (k - f.shrink / f.step + 1) (omega arith) (omega (arith, high.0)) (is ∙ high.1)
    ])

pub place_of-zero : (f : BaseFont) (size : ℕ) → IsBase f → size ≡ 0 → place_of f (pos size) ≡ None
place_of-zero f size base zero_is =
    place_of-none f (pos size)
    (λ k within same. let narrower = narrows f k base within in omega (arith, ints, base.some, narrower))
    (λ k some within same.
    let product : 1 * f.step ≤ k * f.step = mul-le-mul_right f.step some in
    omega (arith, ints, base.some, product))

pub place_of-uneven_below : (f : BaseFont) (size : ℕ) → IsBase f → 0 < size → (size % f.step ≡ 0 → ⊥) → place_of f (neg_ℤ (pos size)) ≡ None
place_of-uneven_below f size base some uneven =
    place_of-none f (neg_ℤ (pos size))
    (λ k within same.
    let narrower = narrows f k base within in
    let rest : f.shrink - k * f.step ≡ (f.shrink / f.step - k) * f.step =
    difference f.shrink (k * f.step) (f.shrink / f.step) k f.step (in_steps f.shrink f.step base.shrink_whole) refl in
    let is : size ≡ (f.shrink / f.step - k) * f.step = omega (arith, ints, rest) in
    uneven (ap (λ n. n % f.step) is ∙ mul-mod_left (f.shrink / f.step - k) f.step))
    (λ k one within same. omega (arith, ints))

pub place_of-past_below : (f : BaseFont) (size : ℕ) → 0 < size → f.shrink < size → place_of f (neg_ℤ (pos size)) ≡ None
place_of-past_below f size some past =
    place_of-none f (neg_ℤ (pos size))
    (λ k within same. omega (arith, ints))
    (λ k one within same. omega (arith, ints))

pub place_of-uneven_above : (f : BaseFont) (size : ℕ) → IsBase f → (size % f.step ≡ 0 → ⊥) → place_of f (pos size) ≡ None
place_of-uneven_above f size base uneven =
    place_of-none f (pos size)
    (λ k within same. let narrower = narrows f k base within in omega (arith, ints, base.some))
    (λ k one within same.
    let is : size ≡ k * f.step = omega (arith, ints) in
    uneven (ap (λ n. n % f.step) is ∙ mul-mod_left k f.step))

pub place_of-past_above : (f : BaseFont) (size : ℕ) → IsBase f → f.stretch < size → place_of f (pos size) ≡ None
place_of-past_above f size base past =
    place_of-none f (pos size)
    (λ k within same. let narrower = narrows f k base within in omega (arith, ints, base.some))
    (λ k one within same.
    let product : k * f.step ≤ f.stretch / f.step * f.step = mul-le-mul_right f.step within in
    let whole = in_steps f.stretch f.step base.stretch_whole in
    omega (arith, ints, product, whole))

-- a font has at most 128 instances
pub count_is : (f : BaseFont) → IsBase f → f.shrink / f.step + f.stretch / f.step ≤ 128
count_is f base =
    let a = in_steps f.shrink f.step base.shrink_whole in
    let b = in_steps f.stretch f.step base.stretch_whole in
    let all : f.stretch + f.shrink ≡ (f.shrink / f.step + f.stretch / f.step) * f.step = omega (arith, a, b) in
    let quotient : (f.stretch + f.shrink) / f.step ≡ f.shrink / f.step + f.stretch / f.step =
    ap (λ n. n / f.step) all ∙ mul-div_cancel _ base.some in
    omega (arith, quotient, base.few)

-- a step that widens does so by at most the stretch
pub widens : (f : BaseFont) (k : ℕ) → IsBase f → k ≤ f.stretch / f.step → k * f.step ≤ f.stretch
widens f k base within =
    let product : k * f.step ≤ f.stretch / f.step * f.step = mul-le-mul_right f.step within in
    omega (arith, product, in_steps f.stretch f.step base.stretch_whole)

-- the place of a step that widens, on its side
pub place_above : (f : BaseFont) (k : ℕ) → k < length (steps_of f) → f.shrink / f.step ≤ k → k - f.shrink / f.step + 1 ≤ f.stretch / f.step
place_above f k inside past = omega (arith, length-steps_of f)

-- each step is within the limits
pub step_within : (f : BaseFont) (k : ℕ) (d : ℤ) → IsBase f → k < length (steps_of f)
    → (neg_ℤ (pos f.shrink) ≤ℤ get_or (steps_of f) k d) × (get_or (steps_of f) k d ≤ℤ pos f.stretch)
step_within f k d base inside =
    let within : k < f.shrink / f.step + f.stretch / f.step = rw length-steps_of at inside in
    elim ((at f k d inside).where_it_is) [
      | inl low ↦ (omega (arith, ints, low.1), omega (arith, ints, low.1))
      | inr high ↦
          let wide = widens f (k - f.shrink / f.step + 1) base (omega (arith, high.0)) in
          (omega (arith, ints, high.1), omega (arith, ints, high.1, wide))
    ]
