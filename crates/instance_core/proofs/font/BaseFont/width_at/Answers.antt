use Rattle.std.proofs.Common.{◌≡◌, ◌<◌, arith, pos, neg_ℤ, ◌≤ℤ◌, length, rules, refl, FitsSigned, w32}
use Rattle.std.specs.Prelude.{slice_index_or}
use Rattle.std.proofs.lemmas.Int.{ints, to_z-of_z, fits_signed_from_abs}
use Rattle.micro_num.proofs.Expansions.{expanded-fits}
use Rattle.instance_core.proofs.font.BaseFont.width_at.Goals as goal

pub scaled_width-requires-clause-fix_word : goal.scaled_width-requires-clause-fix_word
scaled_width-requires-clause-fix_word c =
    let fits : FitsSigned w32 c.args.step = search rules in
    let same : slice_index_or c.as_slice.result.now c.args.code (pos 0) ≡ slice_index_or c.args.self.now.widths c.args.code (pos 0) = rw c.as_slice.ensures refl in
    let inside : c.args.code < length c.args.self.now.widths = omega (arith, c.requires.base.codes) in
    let width = c.requires.base.widths c.args.code (pos 0) inside in
    let fits_width : FitsSigned w32 (slice_index_or c.args.self.now.widths c.args.code (pos 0)) = fits_signed_from_abs w32 _ (omega (arith, ints, width.own.low, width.own.high)) in
    let least : neg_ℤ (pos 1000) ≤ℤ c.args.step = omega (arith, ints, c.requires.low, c.requires.base.shrink_fits) in
    rw same (simp to_z-of_z (expanded-fits (slice_index_or c.args.self.now.widths c.args.code (pos 0)) c.args.step (pos c.args.self.now.stretch) least c.requires.high width.widest))
