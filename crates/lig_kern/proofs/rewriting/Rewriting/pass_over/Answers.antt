-- One symbol is passed over, and the rest is left.
use Rattle.std.proofs.Common.{◌-◌, ◌∙◌, arith}
use Rattle.lig_kern.proofs.SymbolLemmas.{pass-more, drop-more}
use Rattle.lig_kern.proofs.rewriting.Rewriting.pass_over.Goals as goal

pub loop-left-preserved : goal.loop-left-preserved
loop-left-preserved c =
    let old = c.loop-left.self in
    let left = c.loop-left.left in
    record {
      done = rw (c.in_ok-pass_first.ensures.done, c.in_ok-pass_first.ensures.ahead)
          (pass-more old.done old.ahead left (left - 1) (omega arith) ∙ c.loop-left.invariant.done);
      ahead = rw c.in_ok-pass_first.ensures.ahead
          (drop-more old.ahead left (left - 1) (omega arith) ∙ c.loop-left.invariant.ahead);
    }
