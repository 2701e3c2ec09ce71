-- The setting of the line is the one that was worked out, and its cells were asked for.
use Rattle.std.proofs.Common.{◌≡◌, ap, ◌∙◌, List, ◌-ℤ◌, w32, w64, FitsSigned, rules}
use Rattle.std.proofs.lemmas.Int.{to_z-of_z}
use Rattle.instance_core.specs.declared.cell.Cell.{Cell}
use Rattle.hpack_two.specs.Answers.{touched_with}
use Rattle.hpack_two.specs.Lines.{line_ratio}
use Rattle.hpack_two.proofs.SetLines.{answers-packed, asked-is, asked-known, ratio-is, setting-is}
use Rattle.hpack_two.proofs.packing.pack.Goals as goal

pub returns-clause-line : goal.returns-clause-line
returns-clause-line g c =
    let stock = c.args.stock.now in
    let line = c.args.line.now in
    let pieces = c.as_slice-pieces.result.now in
    let width_fits : FitsSigned w32 c.args.width = search rules in
    let indent_fits : FitsSigned w32 c.args.indent = search rules in
    let sums_back = to_z-of_z w64 c.added-sums.result.width (search rules) in
    let lacking_back = to_z-of_z w64 c.lacking.result (search rules) in
    let ratio_back = to_z-of_z w32 c.ratio-ratio.result (search rules) in
    let lacks : c.lacking.result ≡ c.args.width -ℤ c.added-sums.result.width = rw (to_z-of_z w32 c.args.width width_fits, sums_back) at c.lacking.ensures.exact in
    let is = rw lacking_back at c.ratio-ratio.ensures.exact in
    let ratio : c.ratio-ratio.result ≡ line_ratio stock line c.args.width
    = ratio-is stock line c.args.width pieces c.added-sums.result c.lacking.result c.ratio-ratio.result c.as_slice-pieces.ensures c.added-sums.ensures.exact lacks is in
    let own = c.choose-chosen.ensures.stock ∙ c.at-steps.ensures.stock in
    let own_ratio = c.choose-chosen.ensures.ratio ∙ c.at-steps.ensures.ratio ∙ ratio_back ∙ ratio in
    answers-packed stock line c.args.width c.args.indent c.set_glyphs.result
    (setting-is stock _ line c.args.width c.args.indent _ pieces c.set_glyphs.result width_fits indent_fits own c.as_slice-pieces.ensures own_ratio c.set_glyphs.ensures)

pub returns-clause-touched : goal.returns-clause-touched
returns-clause-touched g c =
    let stock = c.args.stock.now in
    let line = c.args.line.now in
    let pieces = c.as_slice-pieces.result.now in
    let width_fits : FitsSigned w32 c.args.width = search rules in
    let indent_fits : FitsSigned w32 c.args.indent = search rules in
    let sums_back = to_z-of_z w64 c.added-sums.result.width (search rules) in
    let lacking_back = to_z-of_z w64 c.lacking.result (search rules) in
    let ratio_back = to_z-of_z w32 c.ratio-ratio.result (search rules) in
    let lacks : c.lacking.result ≡ c.args.width -ℤ c.added-sums.result.width = rw (to_z-of_z w32 c.args.width width_fits, sums_back) at c.lacking.ensures.exact in
    let is = rw lacking_back at c.ratio-ratio.ensures.exact in
    let ratio : c.ratio-ratio.result ≡ line_ratio stock line c.args.width
    = ratio-is stock line c.args.width pieces c.added-sums.result c.lacking.result c.ratio-ratio.result c.as_slice-pieces.ensures c.added-sums.ensures.exact lacks is in
    let set = setting-is stock _ line c.args.width c.args.indent _ pieces c.set_glyphs.result width_fits indent_fits (c.choose-chosen.ensures.stock ∙ c.at-steps.ensures.stock)
    c.as_slice-pieces.ensures (c.choose-chosen.ensures.ratio ∙ c.at-steps.ensures.ratio ∙ ratio_back ∙ ratio) c.set_glyphs.ensures in
    c.choose-chosen.ensures.touched
    ∙ ap (λ (cells : List Cell). touched_with (g.W.WidthSource.bases c.args.source.now) cells (g.W.WidthSource.touched c.args.source.now))
    (asked-known stock c.at-steps.result.stock.now line c.args.width c.args.indent c.at-steps.result.ratio pieces c.set_glyphs.result c.at-steps.ensures.stock c.as_slice-pieces.ensures
    (c.at-steps.ensures.ratio ∙ ratio_back ∙ ratio) (asked-is stock line c.args.width c.args.indent c.set_glyphs.result set))
