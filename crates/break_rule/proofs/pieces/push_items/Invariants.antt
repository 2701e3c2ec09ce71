use Rattle.std.proofs.Common.{◌≡◌, ◌++◌, take}
use Rattle.std.specs.List.{All}
use Rattle.break_rule.specs.Packable.{IsSmallMove}
use Rattle.break_rule.specs.Pieces.{pieces_of_items}
use Rattle.break_rule.proofs.pieces.push_items.Given as goal

abbrev pub invariant-loop-item : goal.invariant-loop-item
invariant-loop-item l = record {
  exact : l.pieces ≡ l.initial.pieces ++ pieces_of_items (take l.item-index l.items);
  small : All IsSmallMove l.pieces;
}
