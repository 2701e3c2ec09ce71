use Rattle.std.proofs.Common.{◌≡◌, map}
use Rattle.hpack_two.specs.Over.{base_of}
use Rattle.page_races.proofs.worker.right_pages.Given as goal

-- the source's fonts stay those of the stock
abbrev pub invariant-loop-turn : goal.invariant-loop-turn
invariant-loop-turn g l = g.W.WidthSource.bases l.source ≡ map base_of l.document.stock
