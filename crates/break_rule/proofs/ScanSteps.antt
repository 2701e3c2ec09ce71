-- What a scan keeps, one item further.
--     before_grows, within_grows    what lies before the next place, and how large it is
--     rest_grows                    what lies from the place before on
use Rattle.std.proofs.Common.{◌≡◌, ℕ, ◌+◌, ◌≤◌, ap, sym, ◌∙◌, subst, arith, List, take}
use Rattle.std.specs.Prelude.{slice_get, Some}
use Rattle.font_stock.specs.declared.font.Font.{Font}
use Rattle.hlist.specs.declared.item.Item.{Item}
use Rattle.hlist.specs.Bounds.{unbroken_count, unbroken_weight}
use Rattle.break_rule.specs.declared.ends.Before.{Before}
use Rattle.break_rule.specs.declared.ends.Rest.{Rest}
use Rattle.break_rule.specs.Adding.{sums_of}
use Rattle.break_rule.specs.Kept.{IsWithin, before_of, rest_of, past_item, from_item}
use Rattle.break_rule.proofs.Totals.{plus-within, within-more}
use Rattle.break_rule.proofs.ScanLaws.{before_step, rest_step, count_step, count_take}

pub before_grows : (stock : List Font) (items : List Item) (i : ℕ) (item : Item) (before after : Before) → slice_get items i ≡ Some item
    → before ≡ before_of stock items i → after ≡ past_item stock item (i + 1) before → after ≡ before_of stock items (i + 1)
before_grows stock items i item before after is front next =
    next ∙ ap (past_item stock item (i + 1)) front ∙ sym (before_step stock items i item is)

pub within_grows : (stock : List Font) (items : List Item) (i : ℕ) (item : Item) (before after : Before) → slice_get items i ≡ Some item
    → IsWithin (unbroken_count (take i items)) before.sums → IsWithin (unbroken_weight item) (sums_of stock item)
    → after ≡ past_item stock item (i + 1) before → IsWithin (unbroken_count (take (i + 1) items)) after.sums
within_grows stock items i item before after is small own next =
    subst (λ (b : Before). IsWithin (unbroken_count (take (i + 1) items)) b.sums) (sym next)
    (subst (λ (n : ℕ). IsWithin n (past_item stock item (i + 1) before).sums) (sym (count_step items i item is))
    (plus-within (unbroken_count (take i items)) (unbroken_weight item) before.sums (sums_of stock item) small own))

-- no front of a list of at most so many items counts more
pub front_within : (items : List Item) (i n : ℕ) (before : Before) → unbroken_count items ≤ n
    → IsWithin (unbroken_count (take i items)) before.sums → IsWithin n before.sums
front_within items i n before few small =
    let front = count_take items i in
    within-more (unbroken_count (take i items)) n before.sums (omega (arith, front, few)) small

pub rest_grows : (stock : List Font) (items : List Item) (i : ℕ) (item : Item) (rest next : Rest) → slice_get items i ≡ Some item
    → rest ≡ rest_of stock items (i + 1) → next ≡ from_item stock item i rest → next ≡ rest_of stock items i
rest_grows stock items i item rest next is back step =
    step ∙ ap (from_item stock item i) back ∙ sym (rest_step stock items i item is)
