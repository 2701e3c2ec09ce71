-- Each turn takes one piece.
use Rattle.std.proofs.Common.{◌≡◌, refl, ap, ◌∙◌, subst, List, ℤ}
use Rattle.std.specs.Prelude.{slice_get, Some}
use Rattle.std.proofs.lemmas.Option.{slice_get_read}
use Rattle.font_stock.specs.declared.font.Font.{Font}
use Rattle.instance_core.specs.declared.font.BaseFont.{BaseFont}
use Rattle.hpack_two.specs.Answers.{touched_with}
use Rattle.hpack_two.specs.Lines.{chosen_of, stepped}
use Rattle.hpack_two.proofs.Choices.{IsNext, keeps-none, keeps-next, room-next, empty-vec, asked-none, asked-next}
use Rattle.hpack_two.proofs.glyphs.choose.Goals as goal

pub loop-piece-init : goal.loop-piece-init
loop-piece-init g c = record {
  kept = keeps-none c.args.steps.now.stock.now c.args.steps.now.ratio c.args.pieces.now _ (empty-vec c.args.room c.requires.empty) refl refl refl c.requires.room;
  stock = refl;
  ratio = refl;
  touched = asked-none c.args.steps.now.stock.now c.args.steps.now.ratio c.args.pieces.now (g.W.WidthSource.bases c.args.source.now) (g.W.WidthSource.touched c.args.source.now) (g.met.W.WidthSource.in_order c.args.source.now);
  bases = refl;
  fixed = refl;
}

pub take-requires-clause-room : goal.take-requires-clause-room
take-requires-clause-room g c =
    let is : slice_get c.args.pieces.now c.loop-piece.piece-index ≡ Some c.piece-item.result
    = slice_get_read _ _ _ _ refl c.loop-piece-test.true c.piece-item.is in
    room-next c.args.steps.now.stock.now c.args.steps.now.ratio c.args.pieces.now c.loop-piece.piece-index c.piece-item.result c.loop-piece.chosen is c.loop-piece.invariant.kept

pub loop-piece-preserved : goal.loop-piece-preserved
loop-piece-preserved g c =
    let stock = c.args.steps.now.stock.now in
    let ratio = c.args.steps.now.ratio in
    let pieces = c.args.pieces.now in
    let piece = c.piece-item.result in
    let index = c.loop-piece.piece-index in
    let old = c.loop-piece.chosen in
    let new = c.take.new.self in
    let inv = c.loop-piece.invariant in
    let bases = g.W.WidthSource.bases c.args.source.now in
    let before = g.W.WidthSource.touched c.args.source.now in
    let asked = g.W.WidthSource.touched c.loop-piece.source in
    let is : slice_get pieces index ≡ Some piece = slice_get_read _ _ _ _ refl c.loop-piece-test.true c.piece-item.is in
    let took : IsNext c.loop-piece.steps.stock.now c.loop-piece.steps.ratio piece old new = record {
      glyphs = c.take.ensures.glyphs;
      capacity = c.take.ensures.capacity;
      natural_is = c.take.ensures.natural;
      near = c.take.ensures.near;
      height = c.take.ensures.height;
      depth = c.take.ensures.depth;
    } in
    let next : IsNext stock ratio piece old new
    = subst (λ (r : ℤ). IsNext stock r piece old new) inv.ratio (subst (λ (s : List Font). IsNext s c.loop-piece.steps.ratio piece old new) inv.stock took) in
    let asks : g.W.WidthSource.touched c.take.new.source ≡ touched_with bases (stepped (chosen_of stock ratio piece)) asked
    = c.take.ensures.touched
    ∙ ap (λ (b : List BaseFont). touched_with b (stepped (chosen_of c.loop-piece.steps.stock.now c.loop-piece.steps.ratio piece)) asked) inv.bases
    ∙ ap (λ (s : List Font). touched_with bases (stepped (chosen_of s c.loop-piece.steps.ratio piece)) asked) inv.stock
    ∙ ap (λ (r : ℤ). touched_with bases (stepped (chosen_of stock r piece)) asked) inv.ratio in
    record {
      kept = keeps-next stock ratio pieces index piece old new is inv.kept next;
      stock = c.take.ensures.stock ∙ inv.stock;
      ratio = c.take.ensures.ratio ∙ inv.ratio;
      touched = asked-next stock ratio pieces index piece bases before asked (g.W.WidthSource.touched c.take.new.source) is inv.touched asks;
      bases = c.take.ensures.bases ∙ inv.bases;
      fixed = c.take.ensures.fixed ∙ inv.fixed;
    }
