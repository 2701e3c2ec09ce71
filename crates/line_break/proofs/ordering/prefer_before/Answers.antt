use Rattle.std.proofs.Common.{◌∙◌, sym, arith}
use Rattle.std.specs.Ordering.{flip_args}
use Rattle.line_break.specs.Pass.{order}
use Rattle.line_break.proofs.TableLemmas.{any_node, compared_short, compared_less}
use Rattle.line_break.proofs.ordering.prefer_before.Goals as goal

pub returns-then-i-ys : goal.returns-then-i-ys
returns-then-i-ys c =
    sym (c.loop-i.invariant ∙ compared_short (flip_args (order c.args.ended)) c.args.xs.now c.args.ys.now c.loop-i.i any_node c.loop-i-test.true c.if-i-ys.true)

pub returns-then-xs-ys : goal.returns-then-xs-ys
returns-then-xs-ys c =
    sym (c.loop-i.invariant ∙ compared_less (flip_args (order c.args.ended)) c.args.xs.now c.args.ys.now c.loop-i.i any_node c.loop-i-test.false (omega arith))
