use Rattle.std.proofs.Common.{◌≡◌, ◌≤◌, take}
use Rattle.std.specs.Prelude.{count_by}
use Rattle.hpack_two.specs.Lines.{is_glyph}
use Rattle.hpack_two.proofs.sums.glyph_count.Given as goal

abbrev pub invariant-loop-piece : goal.invariant-loop-piece
invariant-loop-piece l = record {
  exact : l.count ≡ count_by is_glyph (take l.piece-index l.pieces);
  few : l.count ≤ l.piece-index;
}
