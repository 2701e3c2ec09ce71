-- The source has the fonts that it had.
use Rattle.std.proofs.Common.{◌≡◌}
use Rattle.conformance.proofs.set_lines.tell_paragraphs.Given as goal

abbrev pub invariant-loop-par : goal.invariant-loop-par
invariant-loop-par g l = g.W.WidthSource.bases l.source ≡ g.W.WidthSource.bases l.initial.source
