use Rattle.std.proofs.Common.{All}
use Rattle.page_bench.specs.Timed.{IsTimedLine}
use Rattle.page_bench.proofs.setting.page.Given as goal

abbrev pub invariant-loop-number : goal.invariant-loop-number
invariant-loop-number l = All IsTimedLine l.lines.items
