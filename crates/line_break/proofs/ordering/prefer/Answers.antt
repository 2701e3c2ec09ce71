use Rattle.line_break.proofs.TableLemmas.{preference_is}
use Rattle.line_break.proofs.ordering.prefer.Goals as goal

pub returns : goal.returns
returns c = let e = preference_is c.args.ended c.args.v.now c.args.w.now in cc
