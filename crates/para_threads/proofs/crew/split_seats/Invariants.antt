use Rattle.std.proofs.Common.{◌≡◌, ◌+◌, All}
use Rattle.instance_table.specs.Steps.{first_view}
use Rattle.table_widths.specs.Widths.{IsIdle}
use Rattle.para_threads.specs.Crews.{IsNew, numbers, numbers_upto}
use Rattle.para_threads.proofs.crew.split_seats.Given as goal

abbrev pub invariant-loop : goal.invariant-loop
invariant-loop l = record {
  idle : IsIdle l.fn.table l.first;
  view : l.first.view ≡ record (first_view l.fn.table.bases l.fn.table.draws) { made = l.counter + 1 };
  seats : All (IsNew l.fn.table) l.seats.items;
  numbers : numbers l.seats.items ≡ numbers_upto l.counter;
}
