use Rattle.std.proofs.Common.{take}
use Rattle.liang_hyph.specs.Table.{IsMerged}
use Rattle.liang_hyph.proofs.merge.merge.Given as goal

abbrev pub invariant-loop-pattern : goal.invariant-loop-pattern
invariant-loop-pattern l = IsMerged (take l.pattern-index l.patterns) l.start l.end l.rows
