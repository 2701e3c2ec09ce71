-- Each turn goes past one item.
use Rattle.std.proofs.Common.{◌≡◌, ◌+◌, ◌≤◌, ◌^◌, refl, ap, sym, ◌∙◌, subst, arith, List, [], ◌∷◌, ◌++◌, map, take}
use Rattle.std.specs.Prelude.{slice_get, Some, pos, unsigned_abs}
use Rattle.std.specs.List.{range_with_len, All}
use Rattle.std.proofs.lemmas.Option.{slice_get_read}
use Rattle.std.proofs.lemmas.List.Elements.{All-push}
use Rattle.hlist.specs.Bounds.{unbroken_count}
use Rattle.break_rule.specs.declared.ends.Before.{Before}
use Rattle.break_rule.specs.Kept.{IsWithin, IsHang, IsSmallBefore, before_of}
use Rattle.break_rule.proofs.RangeSteps.{map_step}
use Rattle.break_rule.proofs.ScanLaws.{before_start, count_step, count_take}
use Rattle.break_rule.proofs.ScanSteps.{before_grows, within_grows, front_within}
use Rattle.break_rule.proofs.scan.befores.Goals as goal

pub past_item-before-requires-clause-short : goal.past_item-before-requires-clause-short
past_item-before-requires-clause-short c =
    let items = c.args.items.now in
    let i = c.loop-place.place in
    let is : slice_get items i ≡ Some c.index-items-place.result
    = slice_get_read _ _ _ _ refl c.loop-place-test.true c.index-items-place.is in
    let more = count_step items i c.index-items-place.result is in
    let front = count_take items (i + 1) in
    omega (arith, more, front, c.requires.few)

pub past_item-before-requires-clause-small : goal.past_item-before-requires-clause-small
past_item-before-requires-clause-small c = record {
  sums = front_within c.args.items.now c.loop-place.place 65536 c.loop-place.before c.requires.few c.loop-place.invariant.within;
  hang = c.loop-place.invariant.hang;
}

pub loop-place-preserved : goal.loop-place-preserved
loop-place-preserved c =
    let stock = c.args.stock.now in
    let items = c.args.items.now in
    let i = c.loop-place.place in
    let item = c.index-items-place.result in
    let after = c.past_item-before.result in
    let is : slice_get items i ≡ Some item = slice_get_read _ _ _ _ refl c.loop-place-test.true c.index-items-place.is in
    let front : after ≡ before_of stock items (i + 1)
    = before_grows stock items i item c.loop-place.before after is c.loop-place.invariant.before c.past_item-before.ensures.exact in
    let within : IsWithin (unbroken_count (take (i + 1) items)) after.sums
    = within_grows stock items i item c.loop-place.before after is c.loop-place.invariant.within c.past_item-before.ensures.own
    c.past_item-before.ensures.exact in
    let small : IsSmallBefore after = record {
      sums = front_within items (i + 1) 65536 after c.requires.few within;
      hang = c.past_item-before.ensures.hang;
    } in
    record {
      before = front;
      within = within;
      hang = c.past_item-before.ensures.hang;
      made = c.in_ok-push-2.ensures.items
          ∙ ap (λ (made : List Before). made ++ after ∷ []) c.loop-place.invariant.made
          ∙ ap (λ (b : Before). map (before_of stock items) (range_with_len 0 (i + 1)) ++ b ∷ []) front
          ∙ sym (map_step (before_of stock items) (i + 1));
      small = subst (All IsSmallBefore) (sym c.in_ok-push-2.ensures.items)
          (All-push IsSmallBefore c.loop-place.made.items after c.loop-place.invariant.small small);
    }

pub loop-place-init : goal.loop-place-init
unfolding unbroken_count
loop-place-init c =
    let stock = c.args.stock.now in
    let items = c.args.items.now in
    let before = c.nothing_before-before.result in
    let front : before ≡ before_of stock items 0 = c.nothing_before-before.ensures.exact ∙ sym (before_start stock items) in
    let none : unsigned_abs (pos 0) ≤ 2 ^ 31 = omega arith in
    let hang : IsHang before.behind.hang
    = subst (λ (b : Before). IsHang b.behind.hang) (sym c.nothing_before-before.ensures.exact) none in
    let made : c.push.new.self.items ≡ before ∷ []
    = c.in_ok-push.ensures.items ∙ ap (λ (made : List Before). made ++ before ∷ []) c.in_ok-made.ensures.items in
    let small : IsSmallBefore before = record {
      sums = front_within items 0 65536 before c.requires.few c.nothing_before-before.ensures.small;
      hang = hang;
    } in
    record {
      before = front;
      within = c.nothing_before-before.ensures.small;
      hang = hang;
      made = made ∙ ap (λ (b : Before). b ∷ []) front;
      small = subst (All IsSmallBefore) (sym made)
          (All-push IsSmallBefore [] before (λ k d below. absurd (omega (arith, below))) small);
    }
