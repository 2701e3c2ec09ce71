use Rattle.std.proofs.Common.{◌≡◌}
use Rattle.width_races.proofs.asking.plain_widths.Given as goal

abbrev pub invariant-loop-place : goal.invariant-loop-place
invariant-loop-place l = l.source.bases.now ≡ l.fn.fonts
