use Rattle.std.proofs.Common.{ap, ◌∙◌, ℤ, ◌+ℤ◌, w32, w64, FitsSigned, rules}
use Rattle.hpack_two.specs.Lines.{chosen_of}
use Rattle.hpack_two.proofs.Choices.{asked-glyph, asked-other}
use Rattle.hpack_two.proofs.Fonts.{kern-over, font_move-natural}
use Rattle.hpack_two.proofs.Stored.{sum-stored}
use Rattle.hpack_two.proofs.glyphs.Chosen.take.Goals as goal

pub kern-requires : goal.kern-requires
kern-requires g c =
    kern-over c.args.steps.now.stock.now c.args.piece.now c.in-FontMove.font c.in-FontMove.code c.in-FontMove.fix c.in-FontMove.width c.in-FontMove.is c.requires.over

pub returns-in-Glyph-clause-touched : goal.returns-in-Glyph-clause-touched
returns-in-Glyph-clause-touched g c =
    c.take_glyph.ensures.touched
    ∙ asked-glyph c.args.steps.now.stock.now c.args.steps.now.ratio c.args.piece.now c.in-Glyph.font c.in-Glyph.code (g.W.WidthSource.bases c.args.source.now) (g.W.WidthSource.touched c.args.source.now) c.in-Glyph.is

pub returns-in-Space-clause-touched : goal.returns-in-Space-clause-touched
returns-in-Space-clause-touched g c =
    asked-other c.args.steps.now.stock.now c.args.steps.now.ratio c.args.piece.now (g.W.WidthSource.bases c.args.source.now) (g.W.WidthSource.touched c.args.source.now)
    (ap (chosen_of c.args.steps.now.stock.now c.args.steps.now.ratio) c.in-Space.is) (g.met.W.WidthSource.in_order c.args.source.now)

pub returns-in-Move-clause-touched : goal.returns-in-Move-clause-touched
returns-in-Move-clause-touched g c =
    asked-other c.args.steps.now.stock.now c.args.steps.now.ratio c.args.piece.now (g.W.WidthSource.bases c.args.source.now) (g.W.WidthSource.touched c.args.source.now)
    (ap (chosen_of c.args.steps.now.stock.now c.args.steps.now.ratio) c.in-Move.is) (g.met.W.WidthSource.in_order c.args.source.now)

pub returns-in-FontMove-clause-touched : goal.returns-in-FontMove-clause-touched
returns-in-FontMove-clause-touched g c =
    asked-other c.args.steps.now.stock.now c.args.steps.now.ratio c.args.piece.now (g.W.WidthSource.bases c.args.source.now) (g.W.WidthSource.touched c.args.source.now)
    (ap (chosen_of c.args.steps.now.stock.now c.args.steps.now.ratio) c.in-FontMove.is) (g.met.W.WidthSource.in_order c.args.source.now)

pub returns-in-FontMove-clause-natural : goal.returns-in-FontMove-clause-natural
returns-in-FontMove-clause-natural g c =
    let own_fits : FitsSigned w64 c.args.self.now.natural = search rules in
    let fits : FitsSigned w32 c.kern.result = search rules in
    sum-stored c.args.self.now.natural c.kern.result own_fits fits c.requires.near
    ∙ ap (λ (n : ℤ). c.args.self.now.natural +ℤ n)
    (c.kern.ensures.exact
    ∙ font_move-natural c.args.steps.now.stock.now c.args.steps.now.ratio c.args.piece.now c.in-FontMove.font c.in-FontMove.code c.in-FontMove.fix c.in-FontMove.width c.in-FontMove.is c.requires.over)
