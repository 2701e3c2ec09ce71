use Rattle.std.proofs.Common.{◌≡◌, arith, ap, sym, FitsSigned, w32, to_z, of_z, rules, ◌∙◌}
use Rattle.std.proofs.lemmas.Int.{to_z-of_z}
use Rattle.std.proofs.lemmas.List.{drop_all}
use Rattle.std.proofs.lemmas.List.Elements.{All-get_or}
use Rattle.dvi_write.specs.Output.{grown}
use Rattle.dvi_write.specs.Writable.{IsLinePuttable}
use Rattle.dvi_write.specs.Writing.{lines_bytes}
use Rattle.dvi_write.proofs.Grown.{grown_nothing}
use Rattle.dvi_write.proofs.WritingSteps.{lines_step, line_fonts_step}
use Rattle.dvi_write.proofs.page.put_lines.Goals as goal

pub loop-placed-preserved : goal.loop-placed-preserved
loop-placed-preserved c =
    let fits : FitsSigned w32 c.placed-item.result.baseline = search rules in
    let same : to_z w32 (of_z w32 c.placed-item.result.baseline) ≡ c.placed-item.result.baseline = to_z-of_z w32 c.placed-item.result.baseline fits in
    let puttable : IsLinePuttable c.args.rows.now c.args.numbering.now c.placed-item.result =
    rw c.placed-item.is (All-get_or (IsLinePuttable c.args.rows.now c.args.numbering.now) c.args.lines.now c.loop-placed.placed-index c.placed-item.result c.loop-placed-test.true c.requires) in
    rw same (record {
      within = puttable.baseline;
      bytes =
          lines_step c.args.rows.now c.args.numbering.now _ _ _ _ _ c.args.lines.now c.loop-placed.placed-index c.placed-item.result c.loop-placed-test.true c.placed-item.is
          c.in_ok-put_line.ensures.bytes c.in_ok-put_line.ensures.after ∙ c.loop-placed.invariant.bytes;
      after =
          line_fonts_step c.args.numbering.now _ _ c.args.lines.now c.loop-placed.placed-index c.placed-item.result c.loop-placed-test.true c.placed-item.is c.in_ok-put_line.ensures.after
          ∙ c.loop-placed.invariant.after;
    })

pub returns-clause-bytes : goal.returns-clause-bytes
returns-clause-bytes c =
    let all = drop_all c.loop-placed.placed-index c.args.lines.now (omega arith) in
    sym (grown_nothing c.loop-placed.out)
    ∙ ap (λ rest. grown c.loop-placed.out (lines_bytes c.args.rows.now c.args.numbering.now c.loop-placed.fonts (to_z w32 c.loop-placed.v-bits) rest)) (sym all)
    ∙ c.loop-placed.invariant.bytes
