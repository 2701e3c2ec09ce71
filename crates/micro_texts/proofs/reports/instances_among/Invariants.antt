-- The instances among the cells so far are counted.
use Rattle.std.proofs.Common.{◌≡◌, ◌≤◌, take}
use Rattle.micro_texts.specs.Reports.{instances_among}
use Rattle.micro_texts.proofs.reports.instances_among.Given as goal

abbrev pub invariant-loop-cell : goal.invariant-loop-cell
invariant-loop-cell l = record {
  counted : l.instances ≡ instances_among (take l.cell-index l.cells);
  few : l.instances ≤ l.cell-index;
}
