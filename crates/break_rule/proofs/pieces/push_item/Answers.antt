-- A discretionary gives what its whole list does.
use Rattle.std.proofs.Common.{◌++◌, List, ap, sym, ◌∙◌}
use Rattle.std.specs.Prelude.{flat_map}
use Rattle.hlist.specs.declared.item.Item.{Item}
use Rattle.hlist.specs.declared.item.Sub.{Sub}
use Rattle.break_rule.specs.Lines.{pieces_of, unbroken}
use Rattle.break_rule.specs.declared.line.Piece.{Piece}
use Rattle.break_rule.specs.Pieces.{pieces_of_subs}
use Rattle.break_rule.proofs.PieceLaws.{of_subs}
use Rattle.break_rule.proofs.pieces.push_item.Goals as goal

pub returns-in_ok-push_subs-in-Disc-clause-exact : goal.returns-in_ok-push_subs-in-Disc-clause-exact
returns-in_ok-push_subs-in-Disc-clause-exact c =
    c.in_ok-push_subs-in-Disc.ensures.exact
    ∙ ap (λ (subs : List Sub). c.args.pieces.now ++ pieces_of_subs subs) c.whole.ensures
    ∙ ap (λ (own : List Piece). c.args.pieces.now ++ own) (sym (of_subs c.in-Disc.lists.whole))
    ∙ ap (λ (item : Item). c.args.pieces.now ++ flat_map pieces_of (unbroken item)) (sym c.in-Disc.is)
