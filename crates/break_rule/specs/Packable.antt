-- What packing asks of a line.
--     IsSmallMove               a move by at most 2^32 sp to either side, or no move
--     IsPackablePiece stock     a piece over the fonts of a stock
--     IsPackable stock          a line of at most 131,076 such pieces
use Rattle.std.specs.Prelude.{◌<◌, ◌≤◌, ◌^◌, ⊤, unsigned_abs, List, length, All, Contains}
use Rattle.font_stock.specs.declared.font.Font.{Font}
use Rattle.hlist.specs.Bounds.{OfFont}
use Rattle.break_rule.specs.declared.line.Piece.{Piece}
use Rattle.break_rule.specs.declared.line.Piece.TheVariants.{Glyph, Space, Move, FontMove}

abbrev pub IsSmallMove : Piece → Type 0
IsSmallMove (Move width) = unsigned_abs width ≤ 2 ^ 32
IsSmallMove _ = ⊤

-- the fonts of a piece are in the stock, its kern is one of its font's, and its move is small
abbrev pub IsPackablePiece : List Font → Piece → Type 0
IsPackablePiece stock (Glyph font code) = font < length stock
IsPackablePiece stock (Space glue) = ⊤
IsPackablePiece stock (Move width) = unsigned_abs width ≤ 2 ^ 32
IsPackablePiece stock (FontMove font code fix width) =
    OfFont stock font (λ (f : Font). Contains f.tfm.kerns fix)

-- 65,536 pieces of items without a break, 32,768 of what a break puts at either end, and two at either margin
pub record IsPackable (stock : List Font) (pieces : List Piece) : Type 0 where
  pub few : length pieces ≤ 131076
  pub each : All (IsPackablePiece stock) pieces
