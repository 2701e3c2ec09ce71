-- The lines of the pages so far are counted, fewer than 2^64 for each of them.
use Rattle.std.proofs.Common.{◌≡◌, ◌*◌, ◌^◌, ◌≤◌, take}
use Rattle.micro_texts.specs.Reports.{lines_on}
use Rattle.micro_texts.proofs.reports.lines_on.Given as goal

abbrev pub invariant-loop-page : goal.invariant-loop-page
invariant-loop-page l = record {
  counted : l.lines ≡ lines_on (take l.page-index l.pages);
  fits : l.lines ≤ l.page-index * 2 ^ 64;
}
