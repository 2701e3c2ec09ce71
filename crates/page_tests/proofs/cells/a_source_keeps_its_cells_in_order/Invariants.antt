use Rattle.std.proofs.Common.{◌≡◌}
use Rattle.page_tests.proofs.cells.a_source_keeps_its_cells_in_order.Given as goal

abbrev pub invariant-loop-step : goal.invariant-loop-step
invariant-loop-step g l = l.source.bases.now ≡ l.initial.source.bases.now
