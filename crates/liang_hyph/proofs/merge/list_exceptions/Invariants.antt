use Rattle.std.proofs.Common.{take}
use Rattle.liang_hyph.specs.Table.{IsListed}
use Rattle.liang_hyph.proofs.merge.list_exceptions.Given as goal

abbrev pub invariant-loop-exception : goal.invariant-loop-exception
invariant-loop-exception l = IsListed (take l.exception-index l.exceptions) l.rows
