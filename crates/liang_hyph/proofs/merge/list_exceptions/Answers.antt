use Rattle.std.proofs.Common.{arith, ◌∙◌}
use Rattle.liang_hyph.proofs.MergeLemmas.{IsListed-step}
use Rattle.liang_hyph.proofs.merge.list_exceptions.Goals as goal

pub loop-exception-preserved : goal.loop-exception-preserved
loop-exception-preserved c =
    IsListed-step c.args.exceptions.now c.loop-exception.rows c.put.new.self c.loop-exception.exception-index c.exception-item.result _ _
    (omega arith) c.exception-item.is c.as_slice-in-loop-exception.ensures (c.in_ok-places.ensures ∙ c.as_slice.ensures) c.in_ok-put.ensures c.loop-exception.invariant
