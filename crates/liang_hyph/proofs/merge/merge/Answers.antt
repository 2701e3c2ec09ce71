use Rattle.std.proofs.Common.{max, ◌+◌, ◌∙◌, sym, subst, take}
use Rattle.liang_hyph.specs.Places.{value_at}
use Rattle.liang_hyph.specs.Table.{IsMerged}
use Rattle.liang_hyph.proofs.MergeLemmas.{IsMerged-step_taken, IsMerged-step_skipped}
use Rattle.liang_hyph.proofs.merge.merge.Goals as goal
use Rattle.liang_hyph.proofs.merge.merge.Goals.{then-has_marks+in_ok-values+in_ok-put, else-has_marks}

pub loop-pattern-preserved : goal.loop-pattern-preserved
loop-pattern-preserved c =
    elim c.if-has_marks.branch [
      | then-has_marks+in_ok-values+in_ok-put w ↦
          IsMerged-step_taken c.args.patterns.now c.args.start c.args.end c.loop-pattern.rows c.if-has_marks.rows c.loop-pattern.pattern-index
          c.pattern-item.result w.as_slice-letters.result.now w.in_ok-values.values
          c.loop-pattern-test.true c.pattern-item.is (sym c.has_marks.ensures ∙ w.if-has_marks.true) w.as_slice-letters.ensures (w.rows-is ∙ w.in_ok-put.ensures)
          (λ at h. w.in_ok-values.ensures at h ∙ (λ i. max (value_at (w.row.ensures i) at h) (value_at (w.as_slice.ensures i) at h)))
          c.loop-pattern.invariant
      | else-has_marks w ↦
          subst (IsMerged (take (c.loop-pattern.pattern-index + 1) c.args.patterns.now) c.args.start c.args.end) (sym w.rows-is)
          (IsMerged-step_skipped c.args.patterns.now c.args.start c.args.end c.loop-pattern.rows c.loop-pattern.pattern-index
          c.pattern-item.result c.loop-pattern-test.true c.pattern-item.is (sym c.has_marks.ensures ∙ w.if-has_marks.false) c.loop-pattern.invariant)
    ]
