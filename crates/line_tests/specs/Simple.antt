-- Short lines over a stock.
use Rattle.std.specs.Prelude.{◌≤◌, List, length, All}
use Rattle.font_stock.specs.declared.font.Font.{Font}
use Rattle.break_rule.specs.declared.line.Piece.{Piece}
use Rattle.break_rule.specs.Packable.{IsPackablePiece}

-- a piece whose font is there, and its kern too
pub record IsSimple (stock : List Font) (piece : Piece) : Type 0 where
  pub over : IsPackablePiece stock piece

-- a short list of them
pub record AreSimple (stock : List Font) (pieces : List Piece) : Type 0 where
  pub each : All (IsSimple stock) pieces
  pub few : length pieces ≤ 131076
