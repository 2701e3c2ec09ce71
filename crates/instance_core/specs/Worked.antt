-- A font worked out by hand.
use Rattle.std.specs.Prelude.{ℕ, pos, replicate}
use Rattle.instance_core.specs.declared.font.BaseFont.{BaseFont}

-- every character is half a design size wide, at 10 points, and 20 thousandths wider or narrower at most
abbrev pub half_wide : ℕ → BaseFont
half_wide step = record { size = pos 655360; widths = replicate 256 (pos 524288); stretch = 20; shrink = 20; step = step }
