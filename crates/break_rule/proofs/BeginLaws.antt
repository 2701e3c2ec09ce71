-- The item with which a line begins behind a break.
--     begin_end               behind the end of the list
--     begin_bare, begin_put   behind a discretionary that puts nothing, and something, behind the break
--     begin_plain             behind any other item
--     kept-within             it is in the list, or its end
use Rattle.std.proofs.Common.{◌≡◌, ℕ, suc, ◌+◌, ◌≤◌, refl, ap, ◌∙◌, cond, arith, List, ◌∷◌, [], length, drop}
use Rattle.std.specs.Prelude.{Bool, true, false, take_while, slice_get, Some, if◌then◌else◌}
use Rattle.std.proofs.lemmas.List.{length-drop}
use Rattle.std.proofs.lemmas.List.Sums.{take_while-cons}
use Rattle.std.proofs.lemmas.Option.{slice_get_past}
use Rattle.micro_num.specs.declared.disc.ThreeLists.{ThreeLists}
use Rattle.hlist.specs.declared.item.Item.{Item}
use Rattle.hlist.specs.declared.item.Item.TheVariants.{Char, Lig, FontKern, Kern, Glue, Penalty, Disc, Box}
use Rattle.hlist.specs.declared.item.Sub.{Sub}
use Rattle.break_rule.specs.declared.line.From.TheVariants.{After}
use Rattle.break_rule.specs.Places.{is_nil, is_discardable, kept_from, begin_behind, begin_of}

taken-within : {X : Type 0} (p : X → Bool) (xs : List X) → length (take_while p xs) ≤ length xs
taken-within p [] = let none : 0 ≤ 0 = omega arith in none
taken-within p (x ∷ xs) =
    let cut : length (take_while p (x ∷ xs)) ≡ length (cond (p x) (x ∷ take_while p xs) []) = ap length (take_while-cons p x xs) in
    let fits : length (cond (p x) (x ∷ take_while p xs) []) ≤ suc (length xs) = by (p x) (taken-within p xs) in
    let whole : length (take_while p (x ∷ xs)) ≤ suc (length xs) = omega (arith, cut, fits) in
    whole
  where
    by : (own : Bool) → length (take_while p xs) ≤ length xs → length (cond own (x ∷ take_while p xs) []) ≤ suc (length xs)
    by true rest = omega (arith, rest)
    by false rest = omega arith

pub kept-within : (items : List Item) (place : ℕ) → place ≤ length items → kept_from items place ≤ length items
unfolding kept_from
kept-within items place within =
    let gone : length (take_while is_discardable (drop place items)) ≤ length (drop place items) = taken-within is_discardable (drop place items) in
    let rest = length-drop place items in
    omega (arith, within, gone, rest)

pub begin_end : (items : List Item) (at : ℕ) → length items ≤ at → begin_of items (After at) ≡ kept_from items at
unfolding begin_of
begin_end items at past = ap (begin_behind items at) (slice_get_past items at past)

pub begin_bare : (items : List Item) (at : ℕ) (lists : ThreeLists Sub) → slice_get items at ≡ Some (Disc lists)
    → length lists.post ≡ 0 → begin_of items (After at) ≡ kept_from items (at + 1)
unfolding begin_of
begin_bare items at lists is none = ap (begin_behind items at) is ∙ by lists.post none
  where
    by : (post : List Sub) → length post ≡ 0 → (if is_nil post then kept_from items (at + 1) else at + 1) ≡ kept_from items (at + 1)
    by [] none = refl
    by (x ∷ xs) none = absurd (omega (arith, none))

pub begin_put : (items : List Item) (at : ℕ) (lists : ThreeLists Sub) → slice_get items at ≡ Some (Disc lists)
    → (length lists.post ≡ 0 → ⊥) → begin_of items (After at) ≡ at + 1
unfolding begin_of
begin_put items at lists is some = ap (begin_behind items at) is ∙ by lists.post some
  where
    by : (post : List Sub) → (length post ≡ 0 → ⊥) → (if is_nil post then kept_from items (at + 1) else at + 1) ≡ at + 1
    by [] some = absurd (some refl)
    by (x ∷ xs) some = refl

pub begin_plain : (items : List Item) (at : ℕ) (item : Item) → slice_get items at ≡ Some item
    → ((lists : ThreeLists Sub) → item ≡ Disc lists → ⊥) → begin_of items (After at) ≡ kept_from items at
unfolding begin_of
begin_plain items at item is plain = ap (begin_behind items at) is ∙ by item plain
  where
    by : (own : Item) → ((lists : ThreeLists Sub) → own ≡ Disc lists → ⊥) → begin_behind items at (Some own) ≡ kept_from items at
    by (Char font code) other = refl
    by (Lig font code covers) other = refl
    by (FontKern width left) other = refl
    by (Kern width) other = refl
    by (Glue glue) other = refl
    by (Penalty value) other = refl
    by (Disc lists) other = absurd (other lists refl)
    by (Box width) other = refl
