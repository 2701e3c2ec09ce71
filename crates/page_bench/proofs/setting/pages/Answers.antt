use Rattle.std.proofs.Common.{◌∷◌, [], All, arith, ap, length, length-append, subst, sym}
use Rattle.std.proofs.lemmas.List.Elements.{All-push}
use Rattle.page_bench.specs.Timed.{IsTimed}
use Rattle.page_bench.proofs.setting.pages.Goals as goal

pub loop-page-preserved : goal.loop-page-preserved
loop-page-preserved c = record {
  timed =
      subst (All IsTimed) (sym c.in_ok-push.ensures.items) (All-push IsTimed _ _ c.loop-page.invariant.timed c.in_ok-page.ensures);
  count =
      omega (arith, ap length c.in_ok-push.ensures.items, length-append c.loop-page.pages.items (c.in_ok-page.field-0 ∷ []), c.loop-page.invariant.count);
}
