-- Each kind of piece adds what it has.
use Rattle.std.proofs.Common.{◌+◌, sym, subst}
use Rattle.break_rule.specs.Kept.{IsWithin}
use Rattle.break_rule.proofs.Totals.{plus-within}
use Rattle.hpack_two.proofs.Fonts.{kern-over}
use Rattle.hpack_two.proofs.sums.with_piece.Goals as goal

pub font_move_sums-requires : goal.font_move_sums-requires
font_move_sums-requires c =
    kern-over c.args.stock.now c.args.piece.now c.in-FontMove.font c.in-FontMove.code c.in-FontMove.fix c.in-FontMove.width c.in-FontMove.is c.requires.piece

pub returns-in-Glyph-clause-small : goal.returns-in-Glyph-clause-small
returns-in-Glyph-clause-small c = λ count within.
    subst (IsWithin (count + 1)) (sym c.plus.ensures) (plus-within count 1 c.args.sums.now c.glyph_sums.result within c.glyph_sums.ensures.small)

pub returns-in-Space-clause-small : goal.returns-in-Space-clause-small
returns-in-Space-clause-small c = λ count within.
    subst (IsWithin (count + 1)) (sym c.plus-in-Space.ensures) (plus-within count 1 c.args.sums.now c.of_glue.result within c.of_glue.ensures.small)

pub returns-in-Move-clause-small : goal.returns-in-Move-clause-small
returns-in-Move-clause-small c = λ count within.
    subst (IsWithin (count + 1)) (sym c.plus-in-Move.ensures) (plus-within count 1 c.args.sums.now c.moved.result within c.moved.ensures.small)

pub returns-in-FontMove-clause-small : goal.returns-in-FontMove-clause-small
returns-in-FontMove-clause-small c = λ count within.
    subst (IsWithin (count + 1)) (sym c.plus-in-FontMove.ensures) (plus-within count 1 c.args.sums.now c.font_move_sums.result within c.font_move_sums.ensures.small)
