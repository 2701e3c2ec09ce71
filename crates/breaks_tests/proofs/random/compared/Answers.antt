-- The list as it is built and the one that was broken are over the stock, and a place is one in an emergency too.
use Rattle.std.proofs.Common.{◌≡◌, ◌≤◌, ℕ, ap, ◌∙◌, sym, subst, length, List}
use Rattle.std.specs.List.{All}
use Rattle.std.proofs.lemmas.List.Elements.{All-weaker}
use Rattle.hlist.specs.declared.item.Item.{Item}
use Rattle.break_rule.specs.Fits.{Rule}
use Rattle.break_rule.specs.Made.{IsPlace}
use Rattle.list_fonts.proofs.OverLaws.{list_over}
use Rattle.breaks_tests.proofs.random.compared.Goals as goal

pub make-requires-clause-over : goal.make-requires-clause-over
make-requires-clause-over c = list_over c.args.stock.now c.args.list.now c.requires.own

pub make-requires-2-clause-over : goal.make-requires-2-clause-over
make-requires-2-clause-over c = list_over c.args.stock.now c.in_ok-broken.broken.list c.in_ok-broken.ensures.own

place-of-both : (before after : Rule) → before.items ≡ after.items → before.params ≡ after.params
    → (place : ℕ) → IsPlace before place → IsPlace after place
place-of-both before after items params place is = record {
  within = subst (λ (items : List Item). place ≤ length items) items is.within;
  ends = cc (is.ends, items, params);
}

pub in_last_pass-requires-in-None : goal.in_last_pass-requires-in-None
in_last_pass-requires-in-None c =
    let was = c.in_ok-taken.ensures in
    let is = c.in_emergency.ensures in
    let items = ap (λ (rule : Rule). rule.items) is ∙ ap (λ (rule : Rule). rule.items) was in
    let params = ap (λ (rule : Rule). rule.params) is ∙ ap (λ (rule : Rule). rule.params) was in
    subst (All (IsPlace c.in_emergency.result)) (sym c.as_slice-breaks.ensures)
    (All-weaker _ (IsPlace c.in_emergency.result) (place-of-both _ c.in_emergency.result (sym items) (sym params)) _ c.in_ok-broken.ensures.legal)
