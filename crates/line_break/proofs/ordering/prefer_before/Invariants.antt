use Rattle.std.proofs.Common.{◌≡◌, drop}
use Rattle.std.specs.Cmp.Lexicographic.{slice_cmp}
use Rattle.std.specs.Ordering.{flip_args}
use Rattle.line_break.specs.Pass.{order}
use Rattle.line_break.proofs.ordering.prefer_before.Given as goal

abbrev pub invariant-loop-i : goal.invariant-loop-i
invariant-loop-i l = slice_cmp (flip_args (order l.ended)) l.xs l.ys ≡ slice_cmp (flip_args (order l.ended)) (drop l.i l.xs) (drop l.i l.ys)
