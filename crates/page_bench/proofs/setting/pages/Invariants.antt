use Rattle.std.proofs.Common.{◌≡◌, All, length}
use Rattle.page_bench.specs.Timed.{IsTimed}
use Rattle.page_bench.proofs.setting.pages.Given as goal

abbrev pub invariant-loop-page : goal.invariant-loop-page
invariant-loop-page l = record {
  timed : All IsTimed l.pages.items;
  count : length l.pages.items ≡ l._page;
}
