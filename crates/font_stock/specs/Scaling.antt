-- The table of a font's characters at a size (TeX: The Program, section 571).
use Rattle.std.specs.Prelude.{◌≡◌, ℕ, ◌<◌, ℤ, List, length, slice_index_or, slice_index, Option}
use Rattle.micro_num.specs.Scaling.{scaled}
use Rattle.tfm_read.specs.declared.character.CharInfo.{CharInfo}
use Rattle.tfm_read.specs.declared.tfm.Tfm.{Tfm}
use Rattle.font_stock.specs.declared.codes.FontCodes.{FontCodes}
use Rattle.font_stock.specs.declared.expand.Expand.{Expand}
use Rattle.font_stock.specs.declared.scaled.ScaledChar.{ScaledChar}
use Rattle.font_stock.specs.Fonts.{char_of, stretch_at, shrink_at}

-- a character at the size z, with its share in the expansion
unfoldable pub scaled_char : Option Expand → ℤ → ℕ → CharInfo → ScaledChar
scaled_char expand z factor c = record {
  width = scaled c.width z;
  height = scaled c.height z;
  depth = scaled c.depth z;
  stretch = stretch_at expand factor c.width z;
  shrink = shrink_at expand factor c.width z;
}

-- the first n characters of a font at the size z
pub record AreScaled (tfm : Tfm) (codes : FontCodes) (expand : Option Expand) (z : ℤ) (n : ℕ) (chars : List ScaledChar) : Type 0 where
  pub count : length chars ≡ n
  pub each : (code : ℕ) (d : ScaledChar) → code < n
      → slice_index_or chars code d ≡ scaled_char expand z (slice_index codes.ef code) (char_of tfm code)
