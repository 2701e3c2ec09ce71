-- Glyphs that get their steps in a line have cells of the fonts of the stock.
--     ratio-small     a line's ratio is within a thousand thousandths
--     chosen-has      the step of a character is one that its font has
--     cells-over      so the cells of a line's glyphs are those of the stock
use Rattle.std.proofs.Common.{◌≡◌, inl, inr, ℕ, zero, suc, ◌+◌, ◌*◌, ◌%◌, ◌<◌, ◌≤◌, refl, ap, sym, ◌∙◌, subst, arith, Bool, true, false, cond, not, ◌&&◌, List, [], ◌∷◌, ◌++◌, length, Option, Some, ℤ, pos, negsuc, neg_ℤ, ◌*ℤ◌}
use Rattle.std.specs.Prelude.{All, int_lt, option_map, slice_get, unsigned_abs, unwrap_or}
use Rattle.std.specs.Int.{int_min}
use Rattle.std.proofs.Math.Nat.{mul-mod_left}
use Rattle.std.proofs.lemmas.Bool.Decides.{nat_tests}
use Rattle.std.proofs.lemmas.Int.{ints}
use Rattle.std.proofs.lemmas.List.Elements.{All-cons, All-head, All-nil, All-tail}
use Rattle.std.proofs.lemmas.Nat.{div_below, mul-le}
use Rattle.micro_num.specs.Rounding.{nearest, rounded}
use Rattle.micro_num.proofs.Signs.{minus_abs}
use Rattle.font_stock.specs.declared.expand.Expand.{Expand}
use Rattle.font_stock.specs.declared.font.Font.{Font}
use Rattle.font_stock.specs.Steps.{IsStepOf, nearest_multiple, step_at, step_of}
use Rattle.font_stock.proofs.Limits.{factor_at-few}
use Rattle.font_stock.proofs.WholeSteps.{step_of_negative, steps_within}
use Rattle.hlist.specs.Bounds.{OfFont}
use Rattle.break_rule.specs.Adding.{factor_of}
use Rattle.break_rule.specs.Fits.{has_infinite}
use Rattle.break_rule.specs.Packable.{IsPackablePiece}
use Rattle.break_rule.specs.declared.line.Piece.{Piece}
use Rattle.break_rule.specs.declared.line.Piece.TheVariants.{Glyph, Space, Move, FontMove}
use Rattle.break_rule.specs.declared.sums.Sums.{Sums}
use Rattle.instance_core.specs.Cells.{cell_at}
use Rattle.instance_core.specs.declared.page.Placed.{Placed}
use Rattle.hpack_two.specs.Lines.{Setting, glyph_behind, glyphs_behind}
use Rattle.hpack_two.specs.Steps.{IsChosen}
use Rattle.hpack_two.specs.Widths.{chosen_step, ratio_of, share_of, step_in}
use Rattle.hpack_two.proofs.Cells.{cell-has}
use Rattle.hpack_two.proofs.Fonts.{has-step}
use Rattle.para_workers.specs.Fitting.{IsCellOver}

-- ---- the ratio of a line

least-small : (n : ℕ) → unsigned_abs (int_min (pos n) (pos 1000)) ≤ 1000
least-small n = grind (arith, ints, nat_tests)

share-small : (asked given : ℤ) → int_lt (pos 0) asked ≡ true → int_lt (pos 0) given ≡ true → unsigned_abs (share_of asked given) ≤ 1000
share-small (pos a) (pos g) more some = least-small (nearest (1000 * a) g)
share-small (pos a) (negsuc g) more some = absurd (cc)
share-small (negsuc a) given more some = absurd (cc)

minus-small : (z : ℤ) → unsigned_abs z ≤ 1000 → unsigned_abs (neg_ℤ z) ≤ 1000
minus-small z small = omega (arith, ints, small)

less-more : (z : ℤ) → int_lt z (pos 0) ≡ true → int_lt (pos 0) (neg_ℤ z) ≡ true
less-more (pos n) less = absurd (grind (arith, nat_tests))
less-more (negsuc n) less = grind (arith, nat_tests)

pub ratio-small : (expand : Bool) (lacking : ℤ) (sums : Sums) → unsigned_abs (ratio_of expand lacking sums) ≤ 1000
unfolding ratio_of
ratio-small expand lacking sums =
    either expand (int_lt (pos 0) lacking) (int_lt (pos 0) sums.font_stretch) (not (has_infinite sums)) (int_lt lacking (pos 0)) (int_lt (pos 0) sums.font_shrink)
    (share_of lacking sums.font_stretch) (neg_ℤ (share_of (neg_ℤ lacking) sums.font_shrink))
    (λ more some. share-small lacking sums.font_stretch more some)
    (λ less some. minus-small (share_of (neg_ℤ lacking) sums.font_shrink) (share-small (neg_ℤ lacking) sums.font_shrink (less-more lacking less) some))
  where
    shrunk : (less some : Bool) (y : ℤ) → (less ≡ true → some ≡ true → unsigned_abs y ≤ 1000) → unsigned_abs (cond (less && some) y (pos 0)) ≤ 1000
    shrunk true true y small = small refl refl
    shrunk true false y small = omega arith
    shrunk false some y small = omega arith

    either : (expand more gives finite less some : Bool) (x y : ℤ) → (more ≡ true → gives ≡ true → unsigned_abs x ≤ 1000)
        → (less ≡ true → some ≡ true → unsigned_abs y ≤ 1000)
        → unsigned_abs (cond (expand && more && gives && finite) x (cond (expand && less && some) y (pos 0))) ≤ 1000
    either false more gives finite less some x y stretched small = omega arith
    either true true true true less some x y stretched small = stretched refl refl
    either true true true false less some x y stretched small = shrunk less some y small
    either true true false finite less some x y stretched small = shrunk less some y small
    either true false gives finite less some x y stretched small = shrunk less some y small

-- ---- the step of a character

share-within : (ratio factor limit : ℕ) → ratio ≤ 1000 → factor ≤ 1000 → nearest (ratio * factor * limit) 1000000 ≤ limit
share-within ratio factor limit few part =
    let product : ratio * factor ≤ 1000000 = mul-le ratio factor 1000 1000 few part in
    let whole : ratio * factor * limit ≤ 1000000 * limit = mul-le (ratio * factor) limit 1000000 limit product (omega arith) in
    let below : 2 * (ratio * factor * limit) + 1000000 < (limit + 1) * (2 * 1000000) = omega (arith, whole) in
    let count = div_below (2 * (ratio * factor * limit) + 1000000) (2 * 1000000) (limit + 1) (omega arith) below in
    omega (arith, count)

step-within : (ratio factor limit step : ℕ) → ratio ≤ 1000 → factor ≤ 1000 → limit % step ≡ 0 → 0 < step
    → nearest (nearest (ratio * factor * limit) 1000000) step * step ≤ limit
step-within ratio factor limit step few part whole some =
    steps_within (nearest (ratio * factor * limit) 1000000) limit step (share-within ratio factor limit few part) whole some

stretched-step : (e : Expand) (n : ℕ) → n ≤ e.stretch → n % e.step ≡ 0 → IsStepOf e (pos n)
stretched-step e n within whole = record { low = omega (arith, ints); high = omega (arith, ints, within); whole = whole }

shrunk-step : (e : Expand) (n : ℕ) → n ≤ e.shrink → n % e.step ≡ 0 → IsStepOf e (neg_ℤ (pos n))
shrunk-step e n within whole = record { low = omega (arith, ints, within); high = omega (arith, ints); whole = rw minus_abs whole }

positive-step : (ratio factor limit step : ℕ)
    → nearest_multiple (rounded (pos ratio *ℤ pos factor *ℤ pos limit) (pos 1000000)) (pos step)
    ≡ pos (nearest (nearest (ratio * factor * limit) 1000000) step * step)
positive-step ratio factor limit step = refl

not-less : (ratio : ℕ) → int_lt (pos ratio) (pos 0) ≡ false
not-less ratio = grind (arith, nat_tests)

step-has : (e : Expand) (factor : ℕ) (ratio : ℤ) → factor ≤ 1000 → unsigned_abs ratio ≤ 1000 → IsStepOf e (step_at e factor ratio)
step-has e factor (pos r) part few =
    let n : ℕ = nearest (nearest (r * factor * e.stretch) 1000000) e.step * e.step in
    let is : step_at e factor (pos r) ≡ pos n =
    ap (λ b. nearest_multiple (rounded (pos r *ℤ pos factor *ℤ pos (cond b e.shrink e.stretch)) (pos 1000000)) (pos e.step)) (not-less r)
    ∙ positive-step r factor e.stretch e.step in
    subst (IsStepOf e) (sym is)
    (stretched-step e n (step-within r factor e.stretch e.step few part e.limits.stretch_whole e.limits.step_starts)
    (mul-mod_left (nearest (nearest (r * factor * e.stretch) 1000000) e.step) e.step))
step-has e factor (negsuc r) part few =
    let n : ℕ = nearest (nearest (suc r * factor * e.shrink) 1000000) e.step * e.step in
    let is : step_at e factor (negsuc r) ≡ neg_ℤ (pos n) =
    step_of_negative (negsuc r) (suc r) factor e.shrink e.step (omega (arith, ints)) refl e.limits.step_starts in
    subst (IsStepOf e) (sym is)
    (shrunk-step e n (step-within (suc r) factor e.shrink e.step few part e.limits.shrink_whole e.limits.step_starts)
    (mul-mod_left (nearest (nearest (suc r * factor * e.shrink) 1000000) e.step) e.step))

font-at : (stock : List Font) (number : ℕ) → number < length stock → OfFont stock number (λ font. Unit {0})
font-at [] number inside = absurd (omega (arith, inside))
font-at (font ∷ fonts) zero inside = record { font = font; is = refl; holds = tt }
font-at (font ∷ fonts) (suc number) inside =
    let later = font-at fonts number (omega (arith, inside)) in
    record { font = later.font; is = later.is; holds = tt }

step-is : (stock : List Font) (ratio : ℤ) (number code : ℕ) (font : Font) → slice_get stock number ≡ Some font
    → chosen_step stock ratio number code ≡ step_of font.expand (factor_of font code) ratio
unfolding chosen_step
step-is stock ratio number code font is = ap (λ (o : Option Font). unwrap_or (option_map (step_in code ratio) o) (pos 0)) is

pub chosen-has : (stock : List Font) (ratio : ℤ) (number code : ℕ) → unsigned_abs ratio ≤ 1000 → number < length stock
    → IsChosen stock number (chosen_step stock ratio number code)
unfolding step_of
chosen-has stock ratio number code few inside =
    let known = font-at stock number inside in
    let font : Font = known.font in
    let part : factor_of font code ≤ 1000 = factor_at-few font.codes.ef code font.codes.ef_fits in
    let is = step-is stock ratio number code font known.is in
    let has : (e : Expand) → font.expand ≡ Some e → IsStepOf e (chosen_step stock ratio number code) =
    λ e expands. subst (IsStepOf e) (sym (is ∙ ap (λ o. step_of o (factor_of font code) ratio) expands)) (step-has e (factor_of font code) ratio part few) in
    record { font = font; is = known.is; holds = has-step font.expand (factor_of font code) ratio (chosen_step stock ratio number code) is has }

-- ---- the cells of a line

cell-over : (stock : List Font) (number : ℕ) (step : ℤ) → number < length stock → IsChosen stock number step → IsCellOver stock (cell_at number step)
cell-over stock number (pos zero) inside known = record { font = inside; step = inl refl }
cell-over stock number (pos (suc n)) inside known = record { font = inside; step = inr (cell-has stock number (pos (suc n)) known (λ e. absurd (cc))) }
cell-over stock number (negsuc n) inside known = record { font = inside; step = inr (cell-has stock number (negsuc n) known (λ e. absurd (cc))) }

pub cells-over : (set : Setting) (before pieces : List Piece) → unsigned_abs set.ratio ≤ 1000 → All (IsPackablePiece set.stock) pieces
    → All (λ (g : Placed). IsCellOver set.stock g.cell) (glyphs_behind set before pieces)
unfolding glyphs_behind
cells-over set before [] few each = All-nil (λ (g : Placed). IsCellOver set.stock g.cell)
cells-over set before (piece ∷ pieces) few each =
    one piece (All-head (IsPackablePiece set.stock) piece pieces each)
    (cells-over set (before ++ piece ∷ []) pieces few (All-tail (IsPackablePiece set.stock) piece pieces each))
  where
    Over : Placed → Type 0
    Over g = IsCellOver set.stock g.cell

    one : (p : Piece) → IsPackablePiece set.stock p → All Over (glyphs_behind set (before ++ piece ∷ []) pieces)
        → All Over (glyph_behind set before p ++ glyphs_behind set (before ++ piece ∷ []) pieces)
    one (Glyph font code) inside rest =
        All-cons Over _ (glyphs_behind set (before ++ piece ∷ []) pieces)
        (cell-over set.stock font (chosen_step set.stock set.ratio font code) inside (chosen-has set.stock set.ratio font code few inside)) rest
    one (Space glue) over rest = rest
    one (Move width) over rest = rest
    one (FontMove font code fix width) over rest = rest
