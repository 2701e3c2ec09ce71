-- What packing asks of a line and of a source of widths.
--     IsOver stock line     a line of at most 131,076 pieces over the fonts of a stock, as breaking hands it out
--     base_of font          a font as instances are made of it
use Rattle.std.specs.Prelude.{ℤ, List, map, Option, Some, None}
use Rattle.tfm_read.specs.declared.character.CharInfo.{CharInfo}
use Rattle.font_stock.specs.declared.expand.Expand.{Expand}
use Rattle.font_stock.specs.declared.font.Font.{Font}
use Rattle.break_rule.specs.declared.line.Piece.{Piece}
use Rattle.break_rule.specs.Packable.{IsPackable}
use Rattle.instance_core.specs.declared.font.BaseFont.{BaseFont}

abbrev pub IsOver : List Font → List Piece → Type 0
IsOver stock pieces = IsPackable stock pieces

-- a font that may not be expanded has no instances
abbrev pub base_with : ℤ → List ℤ → Option Expand → BaseFont
base_with size widths None =
    record { size = size; widths = widths; stretch = 0; shrink = 0; step = 1 }
base_with size widths (Some e) =
    record { size = size; widths = widths; stretch = e.stretch; shrink = e.shrink; step = e.step }

-- its size, the widths of its 256 codes, its limits and its step
unfoldable pub base_of : Font → BaseFont
base_of font =
    base_with font.size (map (λ (char : CharInfo). char.width) font.tfm.chars) font.expand
