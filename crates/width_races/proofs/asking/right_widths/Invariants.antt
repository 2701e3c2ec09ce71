use Rattle.std.proofs.Common.{◌≡◌}
use Rattle.width_races.proofs.asking.right_widths.Given as goal

abbrev pub invariant-loop-step : goal.invariant-loop-step
invariant-loop-step g l = record {
  bases : g.W.WidthSource.bases l.source ≡ l.fn.fonts;
  fixed : g.W.WidthSource.fixed l.source ≡ g.W.WidthSource.fixed l.fn.source;
}
