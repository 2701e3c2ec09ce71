use Rattle.std.proofs.Common.{◌≡◌, ◌++◌, take}
use Rattle.line_break.proofs.all_ways.append.Given as goal

abbrev pub invariant-loop-w : goal.invariant-loop-w
invariant-loop-w l = l.all ≡ l.fn.all ++ take l.w-index l.more
