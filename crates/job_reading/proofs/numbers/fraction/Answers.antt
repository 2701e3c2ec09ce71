use Rattle.std.proofs.Common.{ℕ, ◌-◌, List, ◌≤◌, ◌++◌, take, sym, subst, ap, ◌∙◌, arith}
use Rattle.std.proofs.Math.ListN.{length-set}
use Rattle.job_reading.proofs.Digits.{decimals_step, decimals_are_digits, digits-cons, behind_digits-cons, decimal_fraction_small}
use Rattle.job_reading.proofs.numbers.fraction.Goals as goal

pub loop-token-preserved-then-count-lt17 : goal.loop-token-preserved-then-count-lt17
loop-token-preserved-then-count-lt17 c =
    let before = c.loop-token.invariant in
    let is = c.in-Some.ensures.0 in
    let digit = c.in-Some-digit.ensures in
    record {
      value = decimals_step _ _ _ _ before.room c.if-count-lt17.true ∙ ap (λ (ds : List ℕ). take c.loop-token.count c.loop-token.decimals ++ take (17 - c.loop-token.count) ds) (sym (digits-cons _ _ _ _ is digit.value.0 digit.value.1)) ∙ before.value;
      small = omega arith;
      room = length-set c.loop-token.decimals _ _ ∙ before.room;
      decimal = decimals_are_digits _ _ _ (omega arith) digit.small before.decimal;
      behind = sym (behind_digits-cons _ _ _ is digit.value.0) ∙ before.behind;
      within = omega (arith, c.in-Some.ensures.1);
    }

pub returns-clause-small : goal.returns-clause-small
returns-clause-small c = subst (λ (n : ℕ). n ≤ 65536) (sym c.round_decimals.ensures) (decimal_fraction_small _ c.loop-token.invariant.decimal)
