use Rattle.std.proofs.Common.{arith, pos, neg_ℤ, ◌≤ℤ◌, FitsSigned, w32}
use Rattle.std.proofs.lemmas.Int.{ints, to_z-of_z}
use Rattle.micro_num.proofs.Expansions.{expanded-fits}
use Rattle.font_stock.proofs.table.width.Goals as goal

pub expanded_width-requires-clause-fix_word : goal.expanded_width-requires-clause-fix_word
expanded_width-requires-clause-fix_word c =
    let fits_w : FitsSigned w32 c.args.w = c.ranges.w in
    let fits_step : FitsSigned w32 c.args.step = c.ranges.step in
    let shrink = c.args.expand.limits.shrink_fits in
    let low : neg_ℤ (pos 1000) ≤ℤ c.args.step = omega (arith, ints, c.requires.low) in
    simp to_z-of_z (expanded-fits c.args.w c.args.step _ low c.requires.high c.requires.expanded)
