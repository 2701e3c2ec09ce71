use Rattle.std.proofs.Common.{◌≡◌, map}
use Rattle.hpack_two.specs.Over.{base_of}
use Rattle.pack_time.proofs.timing.packed.Given as goal

-- the source's fonts stay those of the stock
abbrev pub invariant-loop-timed : goal.invariant-loop-timed
invariant-loop-timed g l = g.W.WidthSource.bases l.source ≡ map base_of l.stock
