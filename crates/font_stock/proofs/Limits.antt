-- What a font's limits say of its stretch and shrink.
--     stretch_none, shrink_none              a font that may not be stretched, or not be shrunk, has nothing to give
--     stretch_at-small, shrink_at-small      what it gives is within ±2^32 sp
--     factor_at-few                          a share in the expansion is at most a thousand thousandths
--     stretch_at-positive, shrink_at-positive      where it gives something, the limit is at least one whole step
use Rattle.std.proofs.Common.{◌≡◌, ℕ, zero, suc, ◌+◌, ◌*◌, ◌/◌, ◌%◌, ◌<◌, ◌≤◌, ◌^◌, refl, ap, arith, ◌∙◌, ℤ, pos, neg_ℤ, ◌-ℤ◌, ◌<ℤ◌, List, length, inl, inr, Option, Some, None}
use Rattle.std.specs.Prelude.{IfSome, unsigned_abs, slice_index, All}
use Rattle.std.specs.Option.{ForSome}
use Rattle.std.proofs.Math.Nat.{zero-mul}
use Rattle.std.proofs.lemmas.Nat.{div-add-mod'}
use Rattle.std.proofs.lemmas.Bool.{cases_lt}
use Rattle.std.proofs.lemmas.List.Elements.{All-get_or}
use Rattle.std.proofs.Math.ListN.{get_or-eq_default}
use Rattle.font_stock.specs.Ranges.{IsFactor}
use Rattle.std.proofs.lemmas.Int.{ints}
use Rattle.micro_num.specs.Rounding.{nearest}
use Rattle.micro_num.specs.Expansion.{thousandths_of, expanded, width_at}
use Rattle.micro_num.specs.Scaling.{IsFixWord, IsFontSize}
use Rattle.micro_num.proofs.Expansions.{thousandths_of-pos, thousandths_of-within, expanded-fits, width_at-small}
use Rattle.font_stock.specs.declared.expand.Expand.{Expand}
use Rattle.font_stock.specs.Fonts.{stretch_at, shrink_at}

thousandths_of-none : (k : ℕ) → thousandths_of (pos 0) (pos k) ≡ pos 0
thousandths_of-none k =
    let none : nearest (0 * k) 1000 ≡ 0 = omega arith in
    thousandths_of-pos 0 k ∙ ap pos none

minus_itself : (w : ℤ) → w -ℤ w ≡ pos 0
minus_itself w = omega (arith, ints)

pub stretch_none : (expand : Option Expand) (factor : ℕ) (w z : ℤ)
    → IfSome expand (λ e. e.stretch ≡ 0 → stretch_at expand factor w z ≡ pos 0)
unfolding stretch_at
stretch_none None factor w z = tt
stretch_none (Some e) factor w z =
    λ h. rw (h, minus_itself) (thousandths_of-none factor)

pub shrink_none : (expand : Option Expand) (factor : ℕ) (w z : ℤ)
    → IfSome expand (λ e. e.shrink ≡ 0 → shrink_at expand factor w z ≡ pos 0)
unfolding shrink_at
shrink_none None factor w z = tt
shrink_none (Some e) factor w z =
    λ h. rw (h, minus_itself) (thousandths_of-none factor)

-- a font may be stretched by so much, in whole steps of which there is at least one
pub record HasLimit (expand : Option Expand) (limit : Expand → ℕ) : Type 0 where
  pub of : Expand
  pub is : expand ≡ Some of
  pub some : 0 < limit of
  pub whole : limit of % of.step ≡ 0
  pub steps : 0 < limit of / of.step

at_least_one : (n step limit : ℕ) → n * step + limit % step ≡ limit → limit % step ≡ 0 → 0 < limit → 0 < n
at_least_one zero step limit is whole some = absurd (omega (arith, zero-mul step))
at_least_one (suc n) step limit is whole some = omega arith

whole_steps : (limit step : ℕ) → 0 < limit → 1 ≤ step → limit % step ≡ 0 → 0 < limit / step
whole_steps limit step some large whole =
    let is : limit / step * step + limit % step ≡ limit = div-add-mod' limit step in
    at_least_one (limit / step) step limit is whole some

pub stretch_at-positive : (expand : Option Expand) (factor : ℕ) (w z : ℤ) → pos 0 <ℤ stretch_at expand factor w z → HasLimit expand (λ e. e.stretch)
unfolding stretch_at
stretch_at-positive None factor w z positive = absurd (omega (arith, ints))
stretch_at-positive (Some e) factor w z positive = positive_by e.stretch refl
  where
    positive_by : (n : ℕ) → e.stretch ≡ n → HasLimit (Some e) (λ x. x.stretch)
    positive_by zero none =
        let nothing = stretch_none (Some e) factor w z none in
        absurd (omega (arith, ints, nothing))
    positive_by (suc n) is =
        let some : 0 < e.stretch = omega arith in
        record { of = e; is = refl; some = some; whole = e.limits.stretch_whole; steps = whole_steps e.stretch e.step some e.limits.step_starts e.limits.stretch_whole }

pub shrink_at-positive : (expand : Option Expand) (factor : ℕ) (w z : ℤ) → pos 0 <ℤ shrink_at expand factor w z → HasLimit expand (λ e. e.shrink)
unfolding shrink_at
shrink_at-positive None factor w z positive = absurd (omega (arith, ints))
shrink_at-positive (Some e) factor w z positive = positive_by e.shrink refl
  where
    positive_by : (n : ℕ) → e.shrink ≡ n → HasLimit (Some e) (λ x. x.shrink)
    positive_by zero none =
        let nothing = shrink_none (Some e) factor w z none in
        absurd (omega (arith, ints, nothing))
    positive_by (suc n) is =
        let some : 0 < e.shrink = omega arith in
        record { of = e; is = refl; some = some; whole = e.limits.shrink_whole; steps = whole_steps e.shrink e.step some e.limits.step_starts e.limits.shrink_whole }

-- a share of a difference of two widths
share_small : (factor : ℕ) (wide narrow : ℤ) → factor ≤ 1000 → unsigned_abs wide ≤ 2147483648 → unsigned_abs narrow ≤ 2147483648
    → unsigned_abs (thousandths_of (wide -ℤ narrow) (pos factor)) ≤ 2 ^ 32
share_small factor wide narrow few wide_small narrow_small =
    let within = thousandths_of-within (wide -ℤ narrow) (pos factor) few in
    omega (arith, ints, within)

-- a font's own width is a fix_word where the stretched one is
pub stretch_at-small : (expand : Option Expand) (factor : ℕ) (w z : ℤ) → factor ≤ 1000 → IsFontSize z
    → ForSome expand (λ e. IsFixWord (expanded w (pos e.stretch)))
    → unsigned_abs (stretch_at expand factor w z) ≤ 2 ^ 32
unfolding stretch_at
stretch_at-small None factor w z few size fits = omega arith
stretch_at-small (Some e) factor w z few size fits =
    let own : IsFixWord (expanded w (pos 0)) = expanded-fits w (pos 0) (pos e.stretch) (omega (arith, ints)) (omega (arith, ints)) (fits e refl) in
    share_small factor (width_at w (pos e.stretch) z) (width_at w (pos 0) z) few (width_at-small w (pos e.stretch) z (fits e refl) size) (width_at-small w (pos 0) z own size)

pub shrink_at-small : (expand : Option Expand) (factor : ℕ) (w z : ℤ) → factor ≤ 1000 → IsFontSize z
    → ForSome expand (λ e. IsFixWord (expanded w (pos e.stretch)))
    → unsigned_abs (shrink_at expand factor w z) ≤ 2 ^ 32
unfolding shrink_at
shrink_at-small None factor w z few size fits = omega arith
shrink_at-small (Some e) factor w z few size fits =
    let own : IsFixWord (expanded w (pos 0)) = expanded-fits w (pos 0) (pos e.stretch) (omega (arith, ints)) (omega (arith, ints)) (fits e refl) in
    let narrow : IsFixWord (expanded w (neg_ℤ (pos e.shrink))) = expanded-fits w (neg_ℤ (pos e.shrink)) (pos e.stretch) (omega (arith, ints, e.limits.shrink_fits)) (omega (arith, ints)) (fits e refl) in
    share_small factor (width_at w (pos 0) z) (width_at w (neg_ℤ (pos e.shrink)) z) few (width_at-small w (pos 0) z own size) (width_at-small w (neg_ℤ (pos e.shrink)) z narrow size)

-- a share in the expansion is at most a thousand thousandths
pub factor_at-few : (factors : List ℕ) (code : ℕ) → All IsFactor factors → slice_index factors code ≤ 1000
factor_at-few factors code fit =
    elim (cases_lt code (length factors)) [
      | inl inside ↦ All-get_or IsFactor factors code 0 inside fit
      | inr past ↦ rw (get_or-eq_default factors 0 past) (omega arith)
    ]
