use Rattle.line_break.proofs.TableLemmas.{order_is}
use Rattle.break_sweep.proofs.order.order.Goals as goal

pub returns : goal.returns
returns c = let e = order_is c.args.ended c.args.x c.args.y in cc
