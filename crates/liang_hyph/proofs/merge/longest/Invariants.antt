use Rattle.std.proofs.Common.{◌≤◌, length, take}
use Rattle.std.specs.List.{All}
use Rattle.liang_hyph.proofs.merge.longest.Given as goal

abbrev pub invariant-loop-pattern : goal.invariant-loop-pattern
invariant-loop-pattern l = All (λ p. length p.letters ≤ l.longest) (take l.pattern-index l.patterns)
