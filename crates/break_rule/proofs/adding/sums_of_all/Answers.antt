-- Each turn adds one entry.
use Rattle.std.proofs.Common.{◌≡◌, ℕ, ◌+◌, refl, ap, sym, ◌∙◌, subst, List, take}
use Rattle.std.specs.Prelude.{slice_get, Some}
use Rattle.std.proofs.lemmas.Option.{slice_get_read}
use Rattle.font_stock.specs.declared.font.Font.{Font}
use Rattle.hlist.specs.declared.item.Sub.{Sub}
use Rattle.break_rule.specs.declared.sums.Sums.{Sums}
use Rattle.break_rule.specs.Adding.{plus, added_subs, sums_of_sub}
use Rattle.break_rule.specs.Kept.{IsWithin}
use Rattle.break_rule.proofs.Totals.{added_subs_step, plus-within}
use Rattle.break_rule.proofs.adding.sums_of_all.Invariants.{Keeps}
use Rattle.break_rule.proofs.adding.sums_of_all.Goals as goal

grows : (stock : List Font) (subs : List Sub) (i : ℕ) (sub : Sub) (sums own : Sums) → slice_get subs i ≡ Some sub
    → Keeps stock subs i sums → own ≡ sums_of_sub stock sub → IsWithin 1 own → Keeps stock subs (i + 1) (plus sums own)
grows stock subs i sub sums own is kept exact small = record {
  exact = ap (λ (a : Sums). plus a own) kept.exact ∙ ap (plus (added_subs stock (take i subs))) exact ∙ sym (added_subs_step stock subs i sub is);
  small = plus-within i 1 sums own kept.small small;
}

pub loop-sub-preserved : goal.loop-sub-preserved
loop-sub-preserved c =
    let is : slice_get c.args.subs.now c.loop-sub.sub-index ≡ Some c.sub-item.result
    = slice_get_read _ _ _ _ refl c.loop-sub-test.true c.sub-item.is in
    subst (λ (s : Sums). Keeps c.args.stock.now c.args.subs.now (c.loop-sub.sub-index + 1) s) (sym c.plus-sums.ensures)
    (grows _ _ _ c.sub-item.result _ _ is c.loop-sub.invariant c.sub_sums.ensures.exact c.sub_sums.ensures.small)
