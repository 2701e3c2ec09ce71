use Rattle.line_break.proofs.TableLemmas.{order_is}
use Rattle.line_break.proofs.ordering.order.Goals as goal

pub returns : goal.returns
returns c = let e = order_is c.args.ended c.args.x.now c.args.y.now in cc
