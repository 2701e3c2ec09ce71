-- When a font can't be had at a size (TeX: The Program, sections 568 and 572; pdfTeX manual, `\pdffontexpand`).
use Rattle.std.specs.Prelude.{◌≡◌, refl, ℕ, ◌^◌, Bool, not, ◌&&◌, if◌then◌else◌, int_le, int_lt, ℤ, pos, neg_ℤ, List, position, Option, Some, None}
use Rattle.micro_num.specs.Expansion.{expanded}
use Rattle.tfm_read.specs.declared.character.CharInfo.{CharInfo}
use Rattle.tfm_read.specs.declared.tfm.Tfm.{Tfm}
use Rattle.font_stock.specs.declared.expand.Expand.{Expand}
use Rattle.font_stock.specs.declared.size.Size.{Size}
use Rattle.font_stock.specs.declared.size.Size.TheVariants.{At}
use Rattle.font_stock.specs.declared.refused.FontRefused.{FontRefused}
use Rattle.font_stock.specs.declared.refused.FontRefused.TheVariants.{SizePast, WidePast, WideKern}
use Rattle.font_stock.specs.Sizes.{size_of}

-- a number is a fix_word from -2^24 to 2^24 - 1
abbrev pub is_fix_word : ℤ → Bool
is_fix_word w = int_le (neg_ℤ (pos (2 ^ 24))) w && int_lt w (pos (2 ^ 24))

-- a width is no fix_word at the greatest stretch
abbrev pub is_past : ℤ → ℤ → Bool
is_past stretch w = not (is_fix_word (expanded w stretch))

-- a character is too wide at the greatest stretch
abbrev pub is_too_wide : ℤ → CharInfo → Bool
is_too_wide stretch c = c.exists && is_past stretch c.width

-- the least code of such a character
unfoldable pub too_wide : Option Expand → List CharInfo → Option ℕ
too_wide None chars = None
too_wide (Some expand) chars = position (is_too_wide (pos expand.stretch)) chars

-- the least index of a kern that is too wide at the greatest stretch
unfoldable pub wide_kern : Option Expand → List ℤ → Option ℕ
wide_kern None kerns = None
wide_kern (Some expand) kerns = position (is_past (pos expand.stretch)) kerns

-- a character that is too wide is told before a kern
abbrev pub wide_refusal : Option ℕ → Option ℕ → Option FontRefused
wide_refusal None None = None
wide_refusal None (Some index) = Some (WideKern index)
wide_refusal (Some code) kern = Some (WidePast code)

-- the first cause to refuse the font: the size, then the widths, then the kerns
unfoldable pub refusal_of : Tfm → Size → Option Expand → Option FontRefused
refusal_of tfm size expand =
    if int_lt (size_of tfm.design size) (pos (2 ^ 27))
    then wide_refusal (too_wide expand tfm.chars) (wide_kern expand tfm.kerns)
    else Some (SizePast (size_of tfm.design size))

-- a font of any metrics is refused at 2^27 sp, and is had a scaled point below it
pub refused_at_the_limit : (tfm : Tfm) (expand : Option Expand) → refusal_of tfm (At (pos 134217728)) expand ≡ Some (SizePast (pos 134217728))
unfolding refusal_of size_of
refused_at_the_limit tfm expand = refl

pub had_below_the_limit : (tfm : Tfm) → refusal_of tfm (At (pos 134217727)) None ≡ None
unfolding refusal_of size_of too_wide wide_kern
had_below_the_limit tfm = refl
