use Rattle.std.proofs.Common.{◌/◌, arith}
use Rattle.std.proofs.Math.Nat.{mul-mod_left}
use Rattle.job_text.proofs.font_words.whole_steps.Goals as goal

-- a multiple of the step is no more than what it was cut from
pub invariant_of-result : goal.invariant_of-result
invariant_of-result c = record {
  limits = record {
    stretch_fits = omega (arith, c.requires.least);
    shrink_fits = omega (arith, c.requires.least);
    step_starts = c.requires.least;
    step_fits = c.requires.most;
    stretch_whole = mul-mod_left (c.args.stretch / c.args.step) c.args.step;
    shrink_whole = mul-mod_left (c.args.shrink / c.args.step) c.args.step;
    few = omega arith;
  };
}
