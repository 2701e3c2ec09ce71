-- The lines that are timed.
--     IsTimedPiece stock piece     its font is there
--     IsTimed stock timed          the line can be packed to its width
use Rattle.std.specs.Prelude.{◌≤◌, List, length, All}
use Rattle.font_stock.specs.declared.font.Font.{Font}
use Rattle.break_rule.specs.declared.line.Piece.{Piece}
use Rattle.break_rule.specs.Packable.{IsPackablePiece}
use Rattle.pack_time.specs.declared.setting.TimedLine.{TimedLine}

pub record IsTimedPiece (stock : List Font) (piece : Piece) : Type 0 where
  pub over : IsPackablePiece stock piece

pub record IsTimed (stock : List Font) (timed : TimedLine) : Type 0 where
  pub each : All (IsTimedPiece stock) timed.line.pieces
  pub few : length timed.line.pieces ≤ 131076
