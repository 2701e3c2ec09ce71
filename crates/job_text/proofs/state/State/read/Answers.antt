use Rattle.std.proofs.Common.{refl, sym, ◌∙◌, arith}
use Rattle.std.proofs.lemmas.Result.{err_from_is_err_and}
use Rattle.job_reading.specs.Repeats.{goes_on_from}
use Rattle.job_reading.proofs.Repeats.{repeat_goes, repeat_fails, repeat_ends, repeat_stops, pass_on}
use Rattle.job_text.proofs.state.State.read.Goals as goal

pub loop-token-init : goal.loop-token-init
loop-token-init c = record { value = goes_on_from _ (omega arith) refl; within = omega arith; counts = c.requires.counts }

pub returns-then-ends_job : goal.returns-then-ends_job
returns-then-ends_job c = (repeat_stops _ _ _ _ _ _ _ c.loop-token.invariant.value c.in-Some.ensures.0 (sym c.ends_job.ensures ∙ c.if-ends_job.true), c.loop-token.invariant.within)

pub returns-in_err-more : goal.returns-in_err-more
returns-in_err-more c =
    let p = err_from_is_err_and c.from_residual.result c.from_residual.ensures.1 in
    rw (p.1, p.2) (pass_on _ _ _ c.in_err-more.ensures.value (λ fault read. repeat_fails _ _ _ _ _ _ _ _ c.loop-token.invariant.value c.in-Some.ensures.0 (sym c.ends_job.ensures ∙ c.if-ends_job.false) read))

pub loop-token-preserved : goal.loop-token-preserved
loop-token-preserved c = record {
  value = repeat_goes _ _ _ _ _ _ _ _ _ c.loop-token.invariant.value c.in-Some.ensures.0 (sym c.ends_job.ensures ∙ c.if-ends_job.false) c.in_ok-more.ensures.value.0 c.in_ok-more.ensures.value.1;
  within = omega (arith, c.in-Some.ensures.1, c.in_ok-more.ensures.value.1);
  counts = c.in_ok-more.ensures.counts;
}

pub returns : goal.returns
returns c = (repeat_ends _ _ _ _ _ c.loop-token.invariant.value c.in_default.ensures, c.loop-token.invariant.within)
