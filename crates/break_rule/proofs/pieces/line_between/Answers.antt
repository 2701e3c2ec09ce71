-- The pieces are put together part by part.
use Rattle.std.proofs.Common.{◌≡◌, rules, ap, sym, ◌∙◌, subst, List, [], ◌∷◌, ◌++◌, w64}
use Rattle.std.specs.Prelude.{ℤ, All}
use Rattle.std.proofs.lemmas.Int.{to_z-of_z}
use Rattle.std.proofs.lemmas.List.Elements.{All-push}
use Rattle.break_rule.specs.declared.line.Piece.{Piece}
use Rattle.break_rule.specs.declared.line.Piece.TheVariants.{Move}
use Rattle.break_rule.specs.Lines.{moved}
use Rattle.break_rule.specs.Packable.{IsSmallMove}
use Rattle.break_rule.specs.Pieces.{pieces_between}
use Rattle.break_rule.proofs.PieceLaws.{chained}
use Rattle.break_rule.proofs.pieces.line_between.Goals as goal

with-moves : (a b e f b' e' : Piece) (x p : List Piece) → p ≡ a ∷ b ∷ x ++ e ∷ f ∷ [] → b ≡ b' → e ≡ e' → p ≡ a ∷ b' ∷ x ++ e' ∷ f ∷ []
with-moves a b e f b' e' x p is first last =
    is
    ∙ ap (λ (y : Piece). a ∷ y ∷ x ++ e ∷ f ∷ []) first
    ∙ ap (λ (y : Piece). a ∷ b' ∷ x ++ y ∷ f ∷ []) last

pub returns-clause-exact : goal.returns-clause-exact
unfolding pieces_between
returns-clause-exact c =
    with-moves _ _ _ _ _ _ _ _
    (chained _ _ _ _ _ _ _ _ _ _ _ _ _ _ _ (c.from_vec-pieces.ensures ∙ c.in_ok-with_capacity.ensures.items) c.in_ok-push.ensures.ok c.in_ok-push-2.ensures.ok
    c.in_ok-push_subs.ensures.exact c.in_ok-push_items.ensures.exact c.in_ok-push_subs-2.ensures.exact c.in_ok-push-3.ensures.ok c.in_ok-push-4.ensures.ok)
    (c.moved.ensures.exact ∙ ap (λ (h : ℤ). Move (moved c.args.params.now h)) (to_z-of_z w64 c.args.hangs.left (search rules)))
    (c.moved-2.ensures.exact ∙ ap (λ (h : ℤ). Move (moved c.args.params.now h)) (to_z-of_z w64 c.args.hangs.right (search rules)))

pub returns-clause-small : goal.returns-clause-small
returns-clause-small c =
    subst (All IsSmallMove) (sym c.in_ok-push-4.ensures.ok) (All-push IsSmallMove _ _
    (subst (All IsSmallMove) (sym c.in_ok-push-3.ensures.ok)
    (All-push IsSmallMove _ _ c.in_ok-push_subs-2.ensures.small c.moved-2.ensures.small)) tt)
