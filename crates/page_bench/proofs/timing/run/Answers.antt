use Rattle.std.proofs.Common.{All, subst, sym}
use Rattle.page_bench.specs.Timed.{IsTimedCell}
use Rattle.page_bench.proofs.TimedPages.{instances_timed}
use Rattle.page_bench.proofs.timing.run.Goals as goal

pub pages-requires : goal.pages-requires
pages-requires g c = subst (All IsTimedCell) (sym c.instances.ensures) instances_timed
