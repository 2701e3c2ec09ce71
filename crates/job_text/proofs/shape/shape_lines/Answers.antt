use Rattle.std.proofs.Common.{sym, ◌∙◌, arith}
use Rattle.std.proofs.lemmas.Result.{err_from_is_err_and}
use Rattle.job_reading.proofs.Repeats.{times_goes, times_fails, pass_on}
use Rattle.job_text.proofs.shape.shape_lines.Goals as goal

pub returns-in_err-more : goal.returns-in_err-more
returns-in_err-more c =
    let p = err_from_is_err_and c.from_residual.result c.from_residual.ensures.1 in
    rw (p.1, p.2) (pass_on _ _ _ c.in_err-more.ensures (λ fault read. sym c.loop-count.invariant.value ∙ times_fails _ _ _ _ _ c.loop-count-test.true read))

pub loop-count-preserved : goal.loop-count-preserved
loop-count-preserved c = record {
  value = times_goes _ _ _ _ _ _ c.loop-count-test.true c.in_ok-more.ensures.0 ∙ c.loop-count.invariant.value;
  within = omega (arith, c.in_ok-more.ensures.1, c.loop-count.invariant.within);
}
