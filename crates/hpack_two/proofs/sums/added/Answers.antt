-- Each turn adds one piece.
use Rattle.std.proofs.Common.{◌≡◌, ℕ, ◌+◌, refl, ap, sym, ◌∙◌, List, take}
use Rattle.std.specs.Prelude.{slice_get, Some}
use Rattle.std.proofs.lemmas.Option.{slice_get_read}
use Rattle.font_stock.specs.declared.font.Font.{Font}
use Rattle.break_rule.specs.declared.line.Piece.{Piece}
use Rattle.break_rule.specs.declared.sums.Sums.{Sums}
use Rattle.hpack_two.specs.Widths.{added, with_piece}
use Rattle.hpack_two.proofs.NextPieces.{added-next}
use Rattle.hpack_two.proofs.sums.added.Goals as goal

pub loop-piece-preserved : goal.loop-piece-preserved
loop-piece-preserved c =
    let stock = c.args.stock.now in
    let is : slice_get c.args.pieces.now c.loop-piece.piece-index ≡ Some c.piece-item.result
    = slice_get_read _ _ _ _ refl c.loop-piece-test.true c.piece-item.is in
    record {
      exact = c.with_piece-sums.ensures.exact ∙ ap (λ (sums : Sums). with_piece stock sums c.piece-item.result) c.loop-piece.invariant.exact
          ∙ sym (added-next stock c.args.pieces.now c.loop-piece.piece-index c.piece-item.result is);
      small = c.with_piece-sums.ensures.small c.loop-piece.piece-index c.loop-piece.invariant.small;
    }
