use Rattle.std.proofs.Common.{◌<◌, sym, ◌∙◌, arith}
use Rattle.job_lex.proofs.Gaps.{IsGap-from_front, comment_goes_on}
use Rattle.job_lex.proofs.gap.gap_end.Goals as goal

-- the comment has at least its first byte, which is no line feed
pub loop-to-smaller : goal.loop-to-smaller
loop-to-smaller c =
    let found = c.line_end-to.ensures in
    let longer : c.loop-to.to < c.line_end-to.result = comment_goes_on c.args.bytes.now _ _ (sym c.in-Comment.ensures) c.loop-to-test.true found.after found.found in
    omega arith

pub returns-in_default : goal.returns-in_default
returns-in_default c =
    let is = c.category_of.ensures in
    IsGap-from_front _ _ _ c.loop-to.invariant c.loop-to-test.true c.requires.begins
    (λ blank. c.in_default.not-Blank (is ∙ blank))
    (λ comment. c.in_default.not-Comment (is ∙ comment))
