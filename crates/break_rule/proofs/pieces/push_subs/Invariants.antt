use Rattle.std.proofs.Common.{◌≡◌, ◌++◌, take}
use Rattle.std.specs.List.{All}
use Rattle.break_rule.specs.Packable.{IsSmallMove}
use Rattle.break_rule.specs.Pieces.{pieces_of_subs}
use Rattle.break_rule.proofs.pieces.push_subs.Given as goal

abbrev pub invariant-loop-sub : goal.invariant-loop-sub
invariant-loop-sub l = record {
  exact : l.pieces ≡ l.initial.pieces ++ pieces_of_subs (take l.sub-index l.subs);
  small : All IsSmallMove l.pieces;
}
