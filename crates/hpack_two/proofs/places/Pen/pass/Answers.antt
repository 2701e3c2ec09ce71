use Rattle.std.proofs.Common.{ap, ◌∙◌, ℤ, ◌+ℤ◌, w32, w64, FitsSigned, rules}
use Rattle.hpack_two.proofs.Fonts.{kern-over, font_move-natural}
use Rattle.hpack_two.proofs.Stored.{sum-stored}
use Rattle.hpack_two.proofs.places.Pen.pass.Goals as goal

pub kern-requires : goal.kern-requires
kern-requires c =
    kern-over c.args.steps.now.stock.now c.args.piece.now c.in-FontMove.font c.in-FontMove.code c.in-FontMove.fix c.in-FontMove.width c.in-FontMove.is c.requires.over

pub returns-in-FontMove-clause-at : goal.returns-in-FontMove-clause-at
returns-in-FontMove-clause-at c =
    let own_fits : FitsSigned w64 c.args.self.now.at = search rules in
    let fits : FitsSigned w32 c.kern.result = search rules in
    sum-stored c.args.self.now.at c.kern.result own_fits fits c.requires.at
    ∙ ap (λ (n : ℤ). c.args.self.now.at +ℤ n)
    (c.kern.ensures.exact
    ∙ font_move-natural c.args.steps.now.stock.now c.args.steps.now.ratio c.args.piece.now c.in-FontMove.font c.in-FontMove.code c.in-FontMove.fix c.in-FontMove.width c.in-FontMove.is c.requires.over)
