use Rattle.std.proofs.Common.{All, subst, sym}
use Rattle.std.proofs.lemmas.List.Elements.{All-push}
use Rattle.page_bench.specs.Timed.{IsTimedLine}
use Rattle.page_bench.proofs.setting.page.Goals as goal

pub loop-number-preserved : goal.loop-number-preserved
loop-number-preserved c =
    subst (All IsTimedLine) (sym c.in_ok-push.ensures.items) (All-push IsTimedLine _ _ c.loop-number.invariant c.in_ok-placed.ensures)
