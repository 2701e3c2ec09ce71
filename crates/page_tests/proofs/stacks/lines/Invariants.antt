use Rattle.std.proofs.Common.{◌≡◌, vec_len}
use Rattle.page_tests.proofs.stacks.lines.Given as goal

abbrev pub invariant-loop-height : goal.invariant-loop-height
invariant-loop-height l = vec_len l.lines ≡ l.height-index
