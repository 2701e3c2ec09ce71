use Rattle.std.proofs.Common.{◌≡◌, take, map}
use Rattle.std.specs.List.{All}
use Rattle.break_rule.specs.declared.line.From.TheVariants.{After}
use Rattle.break_rule.specs.Kept.{IsSmallOpening, opening_of}
use Rattle.break_rule.proofs.opening.openings.Given as goal

abbrev pub invariant-loop-at : goal.invariant-loop-at
invariant-loop-at l = record {
  made : l.made.items ≡ map (λ at. opening_of l.stock l.items (After at)) (take l.at-index l.legal);
  small : All IsSmallOpening l.made.items;
}
