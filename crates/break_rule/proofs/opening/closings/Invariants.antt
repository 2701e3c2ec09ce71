use Rattle.std.proofs.Common.{◌≡◌, take, map}
use Rattle.std.specs.List.{All}
use Rattle.break_rule.specs.Kept.{IsSmallClosing, closing_of}
use Rattle.break_rule.proofs.opening.closings.Given as goal

abbrev pub invariant-loop-place : goal.invariant-loop-place
invariant-loop-place l = record {
  made : l.made.items ≡ map (closing_of l.params l.stock l.items) (take l.place-index l.legal);
  small : All IsSmallClosing l.made.items;
}
