use Rattle.std.proofs.Common.{◌≡◌, Some}
use Rattle.instance_table.specs.Seats.{IsSeatOf}
use Rattle.table_widths.specs.Widths.{Keeps}
use Rattle.table_widths.proofs.worker.Worker.build.Given as goal

abbrev pub invariant-loop-code : goal.invariant-loop-code
invariant-loop-code g l = record {
  own : IsSeatOf l.fn.self.table.now l.seat;
  building : l.seat.view.building ≡ Some (record { cell = l.fn.number; stored = l.code });
  keeps : Keeps l.fn.seat.view l.seat.view;
}
