-- That the fonts of a list can be stretched or shrunk by a whole step at least (pdfTeX manual, `\pdffontexpand`).
use Rattle.std.specs.Prelude.{◌≡◌, ℕ, ◌/◌, ◌<◌, Option, Some}
use Rattle.font_stock.specs.declared.expand.Expand.{Expand}

-- what some fonts share in their expansion is there, and its limit is at least one whole step
pub record HasStep (shared : Option Expand) (limit : Expand → ℕ) : Type 0 where
  pub of : Expand
  pub is : shared ≡ Some of
  pub steps : 0 < limit of / of.step
