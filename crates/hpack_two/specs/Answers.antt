-- What packing answers, and which cells it asks for.
use Rattle.std.specs.Prelude.{◌≡◌, ⊤, ℤ, List, [], ◌++◌, Some, None, Result, Ok, Err, Vec}
use Rattle.std.specs.declared.alloc.Global.{Global}
use Rattle.font_stock.specs.declared.font.Font.{Font}
use Rattle.break_rule.specs.declared.line.Piece.{Piece}
use Rattle.break_rule.specs.declared.line.LineIn.{LineIn}
use Rattle.instance_core.specs.declared.cell.Cell.{Cell}
use Rattle.instance_core.specs.declared.font.BaseFont.{BaseFont}
use Rattle.instance_core.specs.declared.page.Packed.{Packed}
use Rattle.instance_core.specs.declared.page.Placed.{Placed}
use Rattle.instance_core.specs.Cells.{in_cell_order}
use Rattle.hpack_two.specs.declared.fault.PackFault.{PackFault}
use Rattle.hpack_two.specs.declared.fault.PackFault.TheVariants.{OutOfRange, NoMemory}
use Rattle.hpack_two.specs.Lines.{Setting, set_line, line_in_setting, glyphs_of, glyphs_behind, first_out, stepped}

-- The set line exactly where each of its glyphs stands in range, and else the first that doesn't.
-- Want of memory alone may stand in place of either.
abbrev pub AnswersPacked : List Font → LineIn → ℤ → ℤ → Result Packed PackFault → Type 0
AnswersPacked stock line width indent (Ok packed) =
    (packed ≡ set_line stock line width indent)
    × (first_out (glyphs_of stock line width indent) ≡ None)
AnswersPacked stock line width indent (Err (OutOfRange glyph)) =
    first_out (glyphs_of stock line width indent) ≡ Some glyph
AnswersPacked stock line width indent (Err NoMemory) = ⊤

-- the same of a line whose setting is known, which takes no memory
abbrev pub AnswersSet : Setting → List Piece → ℤ → Result Packed PackFault → Type 0
AnswersSet set pieces end (Ok packed) =
    (packed ≡ line_in_setting set pieces end) × (first_out (glyphs_behind set [] pieces) ≡ None)
AnswersSet set pieces end (Err (OutOfRange glyph)) =
    first_out (glyphs_behind set [] pieces) ≡ Some glyph
AnswersSet set pieces end (Err NoMemory) = ⊥

-- the same of the places alone, which take none either
abbrev pub AnswersPlaced : Setting → List Piece → Result (Vec Placed Global) PackFault → Type 0
AnswersPlaced set pieces (Ok glyphs) =
    (glyphs.items ≡ glyphs_behind set [] pieces) × (first_out (glyphs_behind set [] pieces) ≡ None)
AnswersPlaced set pieces (Err (OutOfRange glyph)) =
    first_out (glyphs_behind set [] pieces) ≡ Some glyph
AnswersPlaced set pieces (Err NoMemory) = ⊥

-- for want of memory nothing is asked; else the cell of each glyph that is expanded, and no other
abbrev pub asked_by : List Placed → Result Packed PackFault → List Cell
asked_by glyphs (Ok packed) = stepped glyphs
asked_by glyphs (Err (OutOfRange glyph)) = stepped glyphs
asked_by glyphs (Err NoMemory) = []

-- the cells of a source when it was asked for more of them
abbrev pub touched_with : List BaseFont → List Cell → List Cell → List Cell
touched_with bases asked before = in_cell_order bases (asked ++ before)
