-- The font that is made of its metrics, a size and its settings: words of this project's own.
use Rattle.std.specs.Prelude.{◌≡◌, Option, Some, None, Result, Ok, Err}
use Rattle.tfm_read.specs.declared.tfm.Tfm.{Tfm}
use Rattle.font_stock.specs.declared.codes.FontCodes.{FontCodes}
use Rattle.font_stock.specs.declared.expand.Expand.{Expand}
use Rattle.font_stock.specs.declared.font.Font.{Font}
use Rattle.font_stock.specs.declared.refused.FontRefused.{FontRefused}
use Rattle.font_stock.specs.declared.refused.FontRefused.TheVariants.{NoMemory}
use Rattle.font_stock.specs.declared.size.Size.{Size}
use Rattle.font_stock.specs.Refusals.{refusal_of}
use Rattle.font_stock.specs.Sizes.{size_of}

pub record IsFontOf (tfm : Tfm) (size : Size) (codes : FontCodes) (expand : Option Expand) (font : Font) : Type 0 where
  pub metrics : font.tfm ≡ tfm
  pub size_asked : font.size ≡ size_of tfm.design size
  pub settings : font.codes ≡ codes
  pub expansion : font.expand ≡ expand

-- That font exactly where there is no cause to refuse it, and else the first cause. Want of memory alone
-- may stand in place of either.
abbrev pub AnswersFont : Tfm → Size → FontCodes → Option Expand → Result Font FontRefused → Type 0
AnswersFont tfm size codes expand (Ok font) = (refusal_of tfm size expand ≡ None) × IsFontOf tfm size codes expand font
AnswersFont tfm size codes expand (Err NoMemory) = Unit {0}
AnswersFont tfm size codes expand (Err refused) = refusal_of tfm size expand ≡ Some refused
