-- Each turn takes in one item more, from the last one on.
use Rattle.std.proofs.Common.{◌≡◌, ◌+◌, ◌-◌, ◌<◌, ◌≤◌, ◌^◌, refl, ap, sym, ◌∙◌, subst, arith, List, [], ◌∷◌, ◌++◌, map, length}
use Rattle.std.specs.Prelude.{slice_get, Some, pos, unsigned_abs}
use Rattle.std.specs.List.{range_with_len, All}
use Rattle.std.proofs.lemmas.Option.{slice_get_read}
use Rattle.std.proofs.lemmas.List.Elements.{All-push}
use Rattle.break_rule.specs.declared.ends.Rest.{Rest}
use Rattle.break_rule.specs.Kept.{IsSmallRest, rest_of}
use Rattle.break_rule.proofs.RangeSteps.{map_step}
use Rattle.break_rule.proofs.ScanLaws.{rest_end}
use Rattle.break_rule.proofs.ScanSteps.{rest_grows}
use Rattle.break_rule.proofs.scan.rests.Goals as goal

pub loop-passed-init : goal.loop-passed-init
loop-passed-init c =
    let stock = c.args.stock.now in
    let items = c.args.items.now in
    let rest = c.nothing_from-rest.result in
    let all : length items ≡ length items - 0 = omega arith in
    let back : rest ≡ rest_of stock items (length items - 0)
    = c.nothing_from-rest.ensures ∙ sym (rest_end stock items) ∙ ap (rest_of stock items) all in
    let none : unsigned_abs (pos 0) ≤ 2 ^ 31 = omega arith in
    let small : IsSmallRest rest = subst (λ (r : Rest). IsSmallRest r) (sym c.nothing_from-rest.ensures) none in
    let made : c.push.new.self.items ≡ rest ∷ []
    = c.in_ok-push.ensures.items ∙ ap (λ (made : List Rest). made ++ rest ∷ []) c.in_ok-made.ensures.items in
    record {
      rest = back;
      small_rest = small;
      made = made ∙ ap (λ (r : Rest). r ∷ []) back;
      small = subst (All (λ (r : Rest). IsSmallRest r)) (sym made)
          (All-push (λ (r : Rest). IsSmallRest r) [] rest (λ k d below. absurd (omega (arith, below))) small);
    }

pub loop-passed-preserved : goal.loop-passed-preserved
loop-passed-preserved c =
    let stock = c.args.stock.now in
    let items = c.args.items.now in
    let passed = c.loop-passed.passed in
    let i = length items - 1 - passed in
    let item = c.index-items-place.result in
    let next = c.from_item-rest.result in
    let below : passed < length items = omega (arith, c.loop-passed-test.true) in
    let within : i < length items = omega (arith, below) in
    let is : slice_get items i ≡ Some item = slice_get_read items (length items) i item refl within c.index-items-place.is in
    let one : length items - passed ≡ i + 1 = omega (arith, below) in
    let more : i ≡ length items - (passed + 1) = omega (arith, below) in
    let back : next ≡ rest_of stock items (length items - (passed + 1))
    = rest_grows stock items i item c.loop-passed.rest next is (c.loop-passed.invariant.rest ∙ ap (rest_of stock items) one)
    c.from_item-rest.ensures.exact ∙ ap (rest_of stock items) more in
    record {
      rest = back;
      small_rest = c.from_item-rest.ensures.hang;
      made = c.in_ok-push-2.ensures.items
          ∙ ap (λ (made : List Rest). made ++ next ∷ []) c.loop-passed.invariant.made
          ∙ ap (λ (r : Rest). map (λ n. rest_of stock items (length items - n)) (range_with_len 0 (passed + 1)) ++ r ∷ []) back
          ∙ sym (map_step (λ n. rest_of stock items (length items - n)) (passed + 1));
      small = subst (All (λ (r : Rest). IsSmallRest r)) (sym c.in_ok-push-2.ensures.items)
          (All-push (λ (r : Rest). IsSmallRest r) c.loop-passed.made.items next c.loop-passed.invariant.small c.from_item-rest.ensures.hang);
    }
