-- What is kept of the step that was found last.
--     IsChosen stock font step      the font has the step: 0, or that of one of its instances
--     IsFound stock ratio found     a step that was found is the one of its font and share
use Rattle.std.specs.Prelude.{◌≡◌, ℕ, ℤ, pos, List, slice_get, Some, MatchOption}
use Rattle.font_stock.specs.declared.expand.Expand.{Expand}
use Rattle.font_stock.specs.declared.font.Font.{Font}
use Rattle.font_stock.specs.Steps.{step_of, IsStepOf}
use Rattle.hlist.specs.Bounds.{OfFont}
use Rattle.hpack_two.specs.declared.steps.Found.{Found}

abbrev pub HasStep : ℤ → Font → Type 0
HasStep step font = MatchOption font.expand (step ≡ pos 0) (λ e. IsStepOf e step)

abbrev pub IsChosen : List Font → ℕ → ℤ → Type 0
IsChosen stock font step = OfFont stock font (HasStep step)

pub record IsFoundIn (ratio : ℤ) (found : Found) (font : Font) : Type 0 where
  pub exact : found.step ≡ step_of font.expand found.factor ratio
  pub has : (e : Expand) → font.expand ≡ Some e → IsStepOf e found.step

pub record IsFound (stock : List Font) (ratio : ℤ) (found : Found) : Type 0 where
  pub found_in : (font : Font) → slice_get stock found.font ≡ Some font → IsFoundIn ratio found font
