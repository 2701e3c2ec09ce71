use Rattle.std.proofs.Common.{All}
use Rattle.pack_time.specs.Timed.{IsTimedPiece}
use Rattle.pack_time.proofs.setting.pieces.Given as goal

abbrev pub invariant-loop-word : goal.invariant-loop-word
invariant-loop-word l = All (IsTimedPiece l.stock) l.pieces
