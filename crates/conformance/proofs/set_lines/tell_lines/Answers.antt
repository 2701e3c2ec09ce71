-- The list that was broken is over the stock.
use Rattle.list_fonts.proofs.OverLaws.{list_over}
use Rattle.conformance.proofs.set_lines.tell_lines.Goals as goal

pub make-requires-clause-over : goal.make-requires-clause-over
make-requires-clause-over g c = list_over c.args.stock.now c.in-Ok.broken.list c.in-Ok.ensures.own
