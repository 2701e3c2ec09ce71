use Rattle.std.proofs.Common.{◌≡◌, ℕ, List, take}
use Rattle.font_stock.specs.declared.font.Font.{Font}
use Rattle.break_rule.specs.declared.line.Piece.{Piece}
use Rattle.break_rule.specs.declared.sums.Sums.{Sums}
use Rattle.break_rule.specs.Kept.{IsWithin}
use Rattle.hpack_two.specs.Widths.{added}
use Rattle.hpack_two.proofs.sums.added.Given as goal

-- what the pieces so far add, and how large that is
pub record Keeps (stock : List Font) (pieces : List Piece) (index : ℕ) (sums : Sums) : Type 0 where
  pub exact : sums ≡ added stock (take index pieces)
  pub small : IsWithin index sums

abbrev pub invariant-loop-piece : goal.invariant-loop-piece
invariant-loop-piece l = Keeps l.stock l.pieces l.piece-index l.sums
