use Rattle.std.proofs.Common.{◌≡◌, map}
use Rattle.hpack_two.specs.Over.{base_of}
use Rattle.thread_tests.proofs.wrong.set_share.Given as goal

-- the source's fonts stay those of the stock
abbrev pub invariant-loop-par : goal.invariant-loop-par
invariant-loop-par g l = g.W.WidthSource.bases l.source ≡ map base_of l.fn.stock
