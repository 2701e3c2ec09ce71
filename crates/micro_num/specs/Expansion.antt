-- Widths of a font that is stretched or shrunk by thousandths (Thành, Micro-typographic extensions to the TeX
-- typesetting system).
use Rattle.std.specs.Prelude.{ℤ, pos, ◌+ℤ◌, ◌*ℤ◌}
use Rattle.micro_num.specs.Rounding.{rounded}
use Rattle.micro_num.specs.Scaling.{scaled}

-- a number times k thousandths, rounded
unfoldable pub thousandths_of : ℤ → ℤ → ℤ
thousandths_of n k = rounded (n *ℤ k) (pos 1000)

-- the width fix_word w of a font that is `step` thousandths wider, or narrower where the step is negative
unfoldable pub expanded : ℤ → ℤ → ℤ
expanded w step = thousandths_of w (pos 1000 +ℤ step)

-- that width at the size z, in sp
unfoldable pub width_at : ℤ → ℤ → ℤ → ℤ
width_at w step z = scaled (expanded w step) z
