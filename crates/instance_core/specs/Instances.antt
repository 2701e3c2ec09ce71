-- Widths and kerns of a font at a step of expansion (Thành, Micro-typographic extensions to the TeX typesetting
-- system; TeX: The Program, section 572).
--     width_of font step code    the width of a character
--     kern_of font step fix      a kern of the font's ligature programs
--     font_at fonts number       the font of a number
--     instance_width fonts cell code    the width of a character in the instance of a cell
use Rattle.std.specs.Prelude.{ℕ, ℤ, pos, List, [], slice_index_or}
use Rattle.micro_num.specs.Expansion.{width_at}
use Rattle.instance_core.specs.declared.font.BaseFont.{BaseFont}
use Rattle.instance_core.specs.declared.cell.Cell.{Cell}

-- the width fix_word of the code, wider by the step, at the font's size
unfoldable pub width_of : BaseFont → ℤ → ℕ → ℤ
width_of font step code = width_at (slice_index_or font.widths code (pos 0)) step font.size

-- a kern is expanded as a width is
unfoldable pub kern_of : BaseFont → ℤ → ℤ → ℤ
kern_of font step fix = width_at fix step font.size

abbrev pub no_font : BaseFont
no_font = record { size = pos 0; widths = []; stretch = 0; shrink = 0; step = 1 }

abbrev pub font_at : List BaseFont → ℕ → BaseFont
font_at fonts number = slice_index_or fonts number no_font

abbrev pub instance_width : List BaseFont → Cell → ℕ → ℤ
instance_width fonts cell code = width_of (font_at fonts cell.font) cell.step code
