-- Fonts of a stock by their numbers.
--     some-is            what is there is one thing
--     of_font            what holds of the font of a number holds of the font that is there
--     base_width         a font at step 0 has its own widths
--     kern-is            and its own kerns
--     kern-over          the kern of a piece is one of its font's
--     kern-fits, kern-stored, step-stored   as 32 bits hold them
--     font_move-natural  what a kern of a piece measures
--     kern-at_step       a kern at a step other than 0
--     has-step, each-has the two ways to say that a font has a step
--     found-step         a step that was found is that of a character of the same font and share
--     found-chosen       its font has it
--     found-now          a step that was worked out is found
use Rattle.std.proofs.Common.{◌≡◌, ◌≢◌, ℕ, refl, ap, sym, ◌∙◌, subst, arith, List, Option, Some, None, ℤ, pos, w32, FitsSigned, to_z, of_z}
use Rattle.std.specs.Prelude.{slice_get, option_map, unwrap_or, MatchOption, Contains}
use Rattle.std.proofs.lemmas.Int.{ints, to_z-of_z, fits_signed_from_abs}
use Rattle.std.proofs.lemmas.List.Elements.{All-contains}
use Rattle.micro_num.specs.Scaling.{scaled, IsFixWord}
use Rattle.micro_num.specs.Expansion.{width_at, expanded}
use Rattle.micro_num.proofs.Expansions.{expanded-none}
use Rattle.font_stock.specs.declared.font.Font.{Font}
use Rattle.font_stock.specs.declared.expand.Expand.{Expand}
use Rattle.font_stock.specs.Steps.{step_of, IsStepOf}
use Rattle.hlist.specs.Bounds.{OfFont}
use Rattle.break_rule.specs.declared.line.Piece.{Piece}
use Rattle.break_rule.specs.declared.line.Piece.TheVariants.{FontMove}
use Rattle.break_rule.specs.Adding.{factor_of}
use Rattle.break_rule.specs.Packable.{IsPackablePiece}
use Rattle.hpack_two.specs.declared.steps.Found.{Found}
use Rattle.hpack_two.specs.Steps.{HasStep, IsChosen, IsFoundIn, IsFound}
use Rattle.hpack_two.specs.Widths.{chosen_step, step_in, kern_at, kern_width, natural_of}

pub some-is : {X : Type 0} (x y : X) → Some x ≡ Some y → x ≡ y
some-is {X} x y e = ap (λ (o : Option X). unwrap_or o x) e

pub of_font : (stock : List Font) (number : ℕ) (P : Font → Type 0) (font : Font) → OfFont stock number P → slice_get stock number ≡ Some font → P font
of_font stock number P font known is = subst P (some-is known.font font (sym known.is ∙ is)) known.holds

pub base_width : (w z : ℤ) → width_at w (pos 0) z ≡ scaled w z
unfolding width_at
base_width w z = ap (λ (v : ℤ). scaled v z) (expanded-none w)

-- a kern of a font that isn't expanded
pub kern-is : (stock : List Font) (number : ℕ) (fix : ℤ) (font : Font) → slice_get stock number ≡ Some font
    → scaled fix font.size ≡ kern_width stock (pos 0) number fix
unfolding kern_width
kern-is stock number fix font is =
    sym (ap (λ (o : Option Font). unwrap_or (option_map (kern_at (pos 0) fix) o) (pos 0)) is ∙ base_width fix font.size)

-- kerns and steps of a font as 32 bits hold them
pub kern-fits : (stock : List Font) (number : ℕ) (fix : ℤ) → OfFont stock number (λ (f : Font). Contains f.tfm.kerns fix) → FitsSigned w32 fix
kern-fits stock number fix known =
    let word : IsFixWord fix = All-contains IsFixWord known.font.tfm.kerns fix known.font.tfm.kerns_fit known.holds in
    fits_signed_from_abs w32 fix (omega (arith, ints, word.low, word.high))

pub kern-stored : (stock : List Font) (number : ℕ) (fix : ℤ) → OfFont stock number (λ (f : Font). Contains f.tfm.kerns fix)
    → OfFont stock number (λ (f : Font). Contains f.tfm.kerns (to_z w32 (of_z w32 fix)))
kern-stored stock number fix known =
    record { font = known.font; is = known.is; holds = rw (to_z-of_z w32 fix (kern-fits stock number fix known)) known.holds }

pub kern-over : (stock : List Font) (piece : Piece) (number code : ℕ) (fix width : ℤ) → piece ≡ FontMove number code fix width
    → IsPackablePiece stock piece → OfFont stock number (λ (f : Font). Contains f.tfm.kerns (to_z w32 (of_z w32 fix)))
kern-over stock piece number code fix width is over = kern-stored stock number fix (subst (IsPackablePiece stock) is over)

pub font_move-natural : (stock : List Font) (ratio : ℤ) (piece : Piece) (number code : ℕ) (fix width : ℤ) → piece ≡ FontMove number code fix width
    → IsPackablePiece stock piece
    → kern_width stock (chosen_step stock ratio number code) number (to_z w32 (of_z w32 fix)) ≡ natural_of stock ratio piece
font_move-natural stock ratio piece number code fix width is over =
    let known : OfFont stock number (λ (f : Font). Contains f.tfm.kerns fix) = subst (IsPackablePiece stock) is over in
    ap (kern_width stock (chosen_step stock ratio number code) number) (to_z-of_z w32 fix (kern-fits stock number fix known))
    ∙ ap (natural_of stock ratio) (sym is)

pub step-stored : (stock : List Font) (number : ℕ) (step : ℤ) → FitsSigned w32 step → IsChosen stock number step
    → IsChosen stock number (to_z w32 (of_z w32 step))
step-stored stock number step fits known =
    record { font = known.font; is = known.is; holds = rw (to_z-of_z w32 step fits) known.holds }

-- a kern at a step other than 0
pub kern-at_step : (expand : Option Expand) (fix step : ℤ) → step ≢ pos 0 → MatchOption expand (step ≡ pos 0) (λ e. IsStepOf e step)
    → ((e : Expand) → expand ≡ Some e → IsStepOf e step → IsFixWord (expanded fix step)) → IsFixWord (expanded fix step)
kern-at_step None fix step other has all = absurd (other has)
kern-at_step (Some e) fix step other has all = all e refl has

step-is : (stock : List Font) (ratio : ℤ) (number code : ℕ) (font : Font) → slice_get stock number ≡ Some font
    → chosen_step stock ratio number code ≡ step_of font.expand (factor_of font code) ratio
unfolding chosen_step
step-is stock ratio number code font is = ap (λ (o : Option Font). unwrap_or (option_map (step_in code ratio) o) (pos 0)) is

-- a step of each expansion that a font has is a step of the font
pub has-step : (expand : Option Expand) (factor : ℕ) (ratio step : ℤ) → step ≡ step_of expand factor ratio
    → ((e : Expand) → expand ≡ Some e → IsStepOf e step) → MatchOption expand (step ≡ pos 0) (λ e. IsStepOf e step)
unfolding step_of
has-step None factor ratio step exact has = exact
has-step (Some e) factor ratio step exact has = has e refl

pub each-has : (expand : Option Expand) (step : ℤ) → MatchOption expand (step ≡ pos 0) (λ e. IsStepOf e step)
    → (e : Expand) → expand ≡ Some e → IsStepOf e step
each-has None step has e is = absurd (cc)
each-has (Some own) step has e is = subst (λ (x : Expand). IsStepOf x step) (some-is own e is) has

pub found-step : (stock : List Font) (ratio : ℤ) (found : Found) (number code : ℕ) (font : Font) → slice_get stock number ≡ Some font
    → IsFound stock ratio found → found.font ≡ number → found.factor ≡ factor_of font code
    → found.step ≡ chosen_step stock ratio number code
found-step stock ratio found number code font is known same share =
    let there : slice_get stock found.font ≡ Some font = ap (slice_get stock) same ∙ is in
    let holds = known.found_in font there in
    holds.exact ∙ ap (λ (n : ℕ). step_of font.expand n ratio) share ∙ sym (step-is stock ratio number code font is)

pub found-chosen : (stock : List Font) (ratio : ℤ) (found : Found) (number : ℕ) (font : Font) → slice_get stock number ≡ Some font
    → IsFound stock ratio found → found.font ≡ number → IsChosen stock number found.step
found-chosen stock ratio found number font is known same =
    let there : slice_get stock found.font ≡ Some font = ap (slice_get stock) same ∙ is in
    let holds = known.found_in font there in
    record { font = font; is = is; holds = has-step font.expand found.factor ratio found.step holds.exact holds.has }

pub found-now : (stock : List Font) (ratio : ℤ) (found : Found) (font : Font) → slice_get stock found.font ≡ Some font
    → found.step ≡ step_of font.expand found.factor ratio → HasStep found.step font → IsFound stock ratio found
found-now stock ratio found font is exact has = record {
  found_in = λ other there.
      let same : font ≡ other = some-is font other (sym is ∙ there) in
      subst (IsFoundIn ratio found) same (record { exact = exact; has = each-has font.expand found.step has });
}
