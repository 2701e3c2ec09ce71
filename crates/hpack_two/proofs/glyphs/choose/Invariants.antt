use Rattle.std.proofs.Common.{◌≡◌}
use Rattle.hpack_two.proofs.Choices.{Keeps, asked_in}
use Rattle.hpack_two.proofs.glyphs.choose.Given as goal

-- the glyphs of the pieces so far, what these measure, and the cells that were asked for them
abbrev pub invariant-loop-piece : goal.invariant-loop-piece
invariant-loop-piece g l = record {
  kept : Keeps l.initial.steps.stock.now l.initial.steps.ratio l.pieces l.piece-index l.chosen;
  stock : l.steps.stock.now ≡ l.initial.steps.stock.now;
  ratio : l.steps.ratio ≡ l.initial.steps.ratio;
  touched : g.W.WidthSource.touched l.source ≡ asked_in l.initial.steps.stock.now l.initial.steps.ratio l.pieces (g.W.WidthSource.bases l.initial.source) (g.W.WidthSource.touched l.initial.source) l.piece-index;
  bases : g.W.WidthSource.bases l.source ≡ g.W.WidthSource.bases l.initial.source;
  fixed : g.W.WidthSource.fixed l.source ≡ g.W.WidthSource.fixed l.initial.source;
}
