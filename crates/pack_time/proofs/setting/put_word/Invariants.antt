use Rattle.std.proofs.Common.{All}
use Rattle.pack_time.specs.Timed.{IsTimedPiece}
use Rattle.pack_time.proofs.setting.put_word.Given as goal

abbrev pub invariant-loop-letter : goal.invariant-loop-letter
invariant-loop-letter l = All (IsTimedPiece l.stock) l.pieces
