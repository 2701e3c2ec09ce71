-- The source has the fonts that it had, and the next line has a number and a place to begin at.
use Rattle.std.proofs.Common.{◌≡◌, ◌≤◌}
use Rattle.break_rule.specs.Made.{IsFrom}
use Rattle.conformance.proofs.set_lines.push_lines.Given as goal

abbrev pub invariant-loop-index : goal.invariant-loop-index
invariant-loop-index g l = record {
  bases : g.W.WidthSource.bases l.source ≡ g.W.WidthSource.bases l.initial.source;
  from : IsFrom l.rule l.from;
  number : 1 ≤ l.number;
}
