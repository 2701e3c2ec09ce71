use Rattle.std.proofs.Common.{◌≡◌}
use Rattle.hpack_two.specs.Lines.{setting_with}
use Rattle.hpack_two.proofs.PlacedPieces.{IsPlacing}
use Rattle.hpack_two.proofs.places.place.Given as goal

-- the glyphs so far stand at their places, and the pen is behind the pieces so far
abbrev pub invariant-loop-piece : goal.invariant-loop-piece
invariant-loop-piece l = record {
  kept : IsPlacing (setting_with l.initial.steps.stock.now l.initial.steps.ratio l.set l.indent) l.pieces l.piece-index l.glyph l.glyphs.items l.pen;
  stock : l.steps.stock.now ≡ l.initial.steps.stock.now;
  ratio : l.steps.ratio ≡ l.initial.steps.ratio;
}
