-- What is kept of a list, item by item.
--     before_start, before_step   what lies before the first place, and before the next one
--     rest_end, rest_step         what lies from the end on, and from the place before
--     drop-step                   a list from an item on
--     count_step, count_take      how many items there are up to one
--     length_count                no list is longer than its items count
use Rattle.std.proofs.Common.{cond, ◌≡◌, ℕ, zero, suc, ◌+◌, ◌<◌, ◌≤◌, refl, ap, sym, ◌∙◌, arith, List, ◌∷◌, [], take, drop, length, reverse}
use Rattle.std.specs.Prelude.{pos, Bool, true, false, slice_get, take_while, sum_by, Some, if◌then◌else◌}
use Rattle.std.proofs.lemmas.List.{take-append-drop, reverse-append, length-reverse, length-take-le}
use Rattle.std.proofs.lemmas.List.Sums.{take_while-cons, sum_by-cons, sum_by_push, sum_by-append}
use Rattle.std.proofs.lemmas.Option.{slice_get_within, none-some, same_Some}
use Rattle.font_stock.specs.declared.font.Font.{Font}
use Rattle.hlist.specs.declared.item.Item.{Item}
use Rattle.hlist.specs.declared.item.Item.TheVariants.{Char, Lig, FontKern, Kern, Glue, Penalty, Disc, Box}
use Rattle.hlist.specs.Bounds.{unbroken_count, unbroken_weight}
use Rattle.break_rule.specs.declared.margin.Side.TheVariants.{Left, Right}
use Rattle.break_rule.specs.Adding.{nothing, added}
use Rattle.break_rule.specs.Places.{is_discardable, kept_from}
use Rattle.break_rule.specs.Margins.{item_margin}
use Rattle.break_rule.specs.Kept.{stop_at, ahead_in, ahead_of, behind_in, behind_of, before_of, rest_of, past_item, from_item}
use Rattle.break_rule.proofs.Totals.{added_step, take_step}

drop-suc : {X : Type 0} (xs : List X) (i : ℕ) (x : X) → slice_get xs i ≡ Some x → drop i xs ≡ x ∷ drop (suc i) xs
drop-suc [] i x is = absurd (none-some x is)
drop-suc (y ∷ ys) zero x is = ap (λ z. z ∷ ys) (same_Some y x is)
drop-suc (y ∷ ys) (suc i) x is = drop-suc ys i x is

pub drop-step : {X : Type 0} (xs : List X) (i : ℕ) (x : X) → slice_get xs i ≡ Some x → drop i xs ≡ x ∷ drop (i + 1) xs
drop-step xs i x is =
    let more : suc i ≡ i + 1 = omega arith in
    drop-suc xs i x is ∙ ap (λ n. x ∷ drop n xs) more

pub drop-end : {X : Type 0} (xs : List X) → drop (length xs) xs ≡ []
drop-end [] = refl
drop-end (x ∷ xs) = drop-end xs

length-take-of : {X : Type 0} (xs : List X) (i : ℕ) (x : X) → slice_get xs i ≡ Some x → length (reverse (take i xs)) ≡ i
length-take-of xs i x is =
    let within : i < length xs = slice_get_within xs i x is in
    length-reverse (take i xs) ∙ length-take-le i xs (omega (arith, within))

pub before_start : (stock : List Font) (items : List Item)
    → before_of stock items 0 ≡ record { sums = nothing; behind = record { at = 0; hang = pos 0 } }
unfolding before_of added behind_in
before_start stock items = refl

behind-step : (stock : List Font) (items : List Item) (i : ℕ) (item : Item) → slice_get items i ≡ Some item
    → behind_of stock items (i + 1) ≡ stop_at (i + 1) (item_margin Right stock item) (behind_of stock items i)
unfolding behind_in
behind-step stock items i item is =
    ap (λ (front : List Item). behind_in stock (reverse front)) (take_step items i item is)
    ∙ ap (behind_in stock) (reverse-append (take i items) (item ∷ []))
    ∙ ap (λ (count : ℕ). stop_at (count + 1) (item_margin Right stock item) (behind_in stock (reverse (take i items)))) (length-take-of items i item is)

pub before_step : (stock : List Font) (items : List Item) (i : ℕ) (item : Item) → slice_get items i ≡ Some item
    → before_of stock items (i + 1) ≡ past_item stock item (i + 1) (before_of stock items i)
unfolding before_of
before_step stock items i item is =
    let sums = added_step stock items i item is in
    let behind = behind-step stock items i item is in
    cc

pub rest_end : (stock : List Font) (items : List Item)
    → rest_of stock items (length items) ≡ record { begin = length items; ahead = record { at = length items; hang = pos 0 } }
unfolding rest_of kept_from ahead_in
rest_end stock items = rw (drop-end items) (grind arith)

kept-step : (items : List Item) (i : ℕ) (item : Item) → slice_get items i ≡ Some item
    → kept_from items i ≡ (if is_discardable item then kept_from items (i + 1) else i)
unfolding kept_from
kept-step items i item is =
    ap (λ (rest : List Item). i + length (take_while is_discardable rest)) (drop-step items i item is)
    ∙ ap (λ (gone : List Item). i + length gone) (take_while-cons is_discardable item (drop (i + 1) items))
    ∙ by (is_discardable item)
  where
    by : (vanishes : Bool) → i + length (cond vanishes (item ∷ take_while is_discardable (drop (i + 1) items)) [])
        ≡ (if vanishes then (i + 1) + length (take_while is_discardable (drop (i + 1) items)) else i)
    by true = omega arith
    by false = omega arith

ahead-step : (stock : List Font) (items : List Item) (i : ℕ) (item : Item) → slice_get items i ≡ Some item
    → ahead_of stock items i ≡ stop_at i (item_margin Left stock item) (ahead_of stock items (i + 1))
unfolding ahead_in
ahead-step stock items i item is = ap (ahead_in stock i) (drop-step items i item is)

pub rest_step : (stock : List Font) (items : List Item) (i : ℕ) (item : Item) → slice_get items i ≡ Some item
    → rest_of stock items i ≡ from_item stock item i (rest_of stock items (i + 1))
unfolding rest_of
rest_step stock items i item is =
    let begin = kept-step items i item is in
    let ahead = ahead-step stock items i item is in
    cc

pub count_step : (items : List Item) (i : ℕ) (item : Item) → slice_get items i ≡ Some item
    → unbroken_count (take (i + 1) items) ≡ unbroken_count (take i items) + unbroken_weight item
unfolding unbroken_count
count_step items i item is =
    ap (sum_by unbroken_weight) (take_step items i item is) ∙ sum_by_push unbroken_weight (take i items) item

pub count_take : (items : List Item) (i : ℕ) → unbroken_count (take i items) ≤ unbroken_count items
unfolding unbroken_count
count_take items i =
    let parts : unbroken_count items ≡ unbroken_count (take i items) + unbroken_count (drop i items)
    = ap (sum_by unbroken_weight) (sym (take-append-drop i items)) ∙ sum_by-append unbroken_weight (take i items) (drop i items) in
    omega (arith, parts)

weight-some : (item : Item) → 1 ≤ unbroken_weight item
weight-some (Char font code) = omega arith
weight-some (Lig font code covers) = omega arith
weight-some (FontKern width left) = omega arith
weight-some (Kern width) = omega arith
weight-some (Glue glue) = omega arith
weight-some (Penalty value) = omega arith
weight-some (Disc lists) = omega arith
weight-some (Box width) = omega arith

pub length_count : (items : List Item) → length items ≤ unbroken_count items
unfolding unbroken_count
length_count [] = let none : 0 ≤ sum_by unbroken_weight [] = omega arith in none
length_count (item ∷ items) = omega (arith, weight-some item, length_count items, sum_by-cons unbroken_weight item items)
