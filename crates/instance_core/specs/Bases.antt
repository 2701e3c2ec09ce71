-- What the fonts of instances are kept to, so that every cell has a number and every width a value.
--     IsBase font       its size, its widths at every step, and its limits are in range
--     AreBases fonts    so are all, and there are at most 32
use Rattle.std.specs.Prelude.{◌≡◌, ℕ, ◌+◌, ◌/◌, ◌%◌, ◌≤◌, ℤ, pos, List, length, All}
use Rattle.micro_num.specs.Expansion.{expanded}
use Rattle.micro_num.specs.Scaling.{IsFixWord, IsFontSize}
use Rattle.instance_core.specs.declared.font.BaseFont.{BaseFont}

-- a width is a fix_word, and so it is where it is stretched most
pub record IsStretchable (stretch : ℕ) (width : ℤ) : Type 0 where
  pub own : IsFixWord width
  pub widest : IsFixWord (expanded width (pos stretch))

pub record IsBase (font : BaseFont) : Type 0 where
  pub size : IsFontSize font.size
  pub codes : length font.widths ≡ 256
  pub some : 1 ≤ font.step
  pub stretch_whole : font.stretch % font.step ≡ 0
  pub shrink_whole : font.shrink % font.step ≡ 0
  pub shrink_fits : font.shrink ≤ 500
  pub few : (font.stretch + font.shrink) / font.step ≤ 128
  pub widths : All (IsStretchable font.stretch) font.widths

pub record AreBases (fonts : List BaseFont) : Type 0 where
  pub few : length fonts ≤ 32
  pub each : All IsBase fonts
