use Rattle.std.proofs.Common.{◌≡◌}
use Rattle.thread_tests.proofs.wrong.ask_each.Given as goal

-- the source's fonts stay the same
abbrev pub invariant-loop-number : goal.invariant-loop-number
invariant-loop-number g l = g.W.WidthSource.bases l.source ≡ l.fn.bases
