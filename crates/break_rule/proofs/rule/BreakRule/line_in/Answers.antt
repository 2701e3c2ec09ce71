-- The pieces of a line from what stands on it, and that they are what packing asks.
use Rattle.std.proofs.Common.{◌≡◌, ◌≤◌, ap, sym, ◌∙◌, subst, arith, List}
use Rattle.std.specs.Prelude.{slice_range}
use Rattle.hlist.specs.declared.item.Item.{Item}
use Rattle.hlist.specs.Bounds.{unbroken_count}
use Rattle.break_rule.specs.declared.ends.Opening.{Opening}
use Rattle.break_rule.specs.Fits.{Rule}
use Rattle.break_rule.specs.Kept.{opening_of, opening_with}
use Rattle.break_rule.specs.Over.{IsOver}
use Rattle.break_rule.specs.Packable.{IsPackable}
use Rattle.break_rule.proofs.PieceLaws.{of_kept}
use Rattle.break_rule.proofs.PackableLaws.{middle_over, middle_few, between_packable}
use Rattle.break_rule.proofs.rule.BreakRule.line_in.Goals as goal

pub returns-clause-pieces : goal.returns-clause-pieces
unfolding opening_of opening_with
returns-clause-pieces c =
    let rule = c.args.self.now in
    let begin = ap (λ (opening : Opening). opening.begin) c.opening.ensures.exact in
    let own = c.as_slice-items.ensures ∙ ap (λ (held : Rule). held.items) c.self.view_is in
    of_kept _ rule.params rule.stock _ rule.items c.args.from c.opening.result.now.begin c.args.to
    _ _ _ _ _ _ (ap (λ (held : Rule). held.params) c.self.view_is) own c.in_ok-pieces.ensures.exact
    c.post_behind-behind.ensures.exact c.middle-middle.ensures begin c.pre-before.ensures.exact
    c.hangs-hangs.ensures.left c.hangs-hangs.ensures.right

pub returns-clause-packable : goal.returns-clause-packable
returns-clause-packable c =
    let made = c.self.invariant in
    let items = c.self.inside.list.now.items in
    let stock = c.self.inside.stock.now in
    let begin = c.opening.result.now.begin in
    let middle : c.middle-middle.result.now ≡ slice_range items begin c.args.to
    = c.middle-middle.ensures ∙ ap (λ (own : List Item). slice_range own begin c.args.to) c.as_slice-items.ensures in
    let over : IsOver stock c.middle-middle.result.now
    = subst (IsOver stock) (sym middle) (middle_over stock items begin c.args.to made.over) in
    let few : unbroken_count c.middle-middle.result.now ≤ 65536
    = subst (λ (own : List Item). unbroken_count own ≤ 65536) (sym middle) (omega (arith, middle_few items begin c.args.to, made.few)) in
    subst (λ (rule : Rule). IsPackable rule.stock c.in_ok-pieces.pieces) c.self.view_is
    (between_packable _ stock _ _ _ _ _ c.in_ok-pieces.pieces c.in_ok-pieces.ensures.exact c.in_ok-pieces.ensures.small
    c.post_behind-behind.ensures.over c.post_behind-behind.ensures.short over few c.pre-before.ensures.over c.pre-before.ensures.short)
