use Rattle.std.proofs.Common.{refl, sym, ◌∙◌, arith}
use Rattle.std.proofs.lemmas.Result.{err_from_is_err_and}
use Rattle.job_reading.specs.Repeats.{goes_on_from}
use Rattle.job_reading.proofs.Repeats.{repeat_goes, repeat_fails, repeat_ends, repeat_stops, pass_on}
use Rattle.job_text.proofs.patterns.exception_list.Goals as goal

pub loop-token-init : goal.loop-token-init
loop-token-init c = record { value = goes_on_from _ (omega arith) refl; within = omega arith }

pub returns-then-is_close : goal.returns-then-is_close
returns-then-is_close c = (repeat_stops _ _ _ _ _ _ _ c.loop-token.invariant.value c.in-Some.ensures.0 (sym c.is_close.ensures ∙ c.if-is_close.true), c.loop-token.invariant.within)

pub returns-in_err-more : goal.returns-in_err-more
returns-in_err-more c =
    let p = err_from_is_err_and c.from_residual.result c.from_residual.ensures.1 in
    rw (p.1, p.2) (pass_on _ _ _ c.in_err-more.ensures (λ fault read. repeat_fails _ _ _ _ _ _ _ _ c.loop-token.invariant.value c.in-Some.ensures.0 (sym c.is_close.ensures ∙ c.if-is_close.false) read))

pub loop-token-preserved : goal.loop-token-preserved
loop-token-preserved c = record {
  value = repeat_goes _ _ _ _ _ _ _ _ _ c.loop-token.invariant.value c.in-Some.ensures.0 (sym c.is_close.ensures ∙ c.if-is_close.false) c.in_ok-more.ensures.0 c.in_ok-more.ensures.1;
  within = omega (arith, c.in-Some.ensures.1, c.in_ok-more.ensures.1);
}

pub returns : goal.returns
returns c = (repeat_ends _ _ _ _ _ c.loop-token.invariant.value c.in_default.ensures, c.loop-token.invariant.within)
