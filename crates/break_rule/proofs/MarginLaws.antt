-- The search for the character at a margin goes part by part.
--     margin-append           over one part and then another
--     item-margin             an item's part of it
--     subs_left_step          the entries of a discretionary, one longer, from the left
--     subs_right_step         and from the right
use Rattle.std.proofs.Common.{cond, ◌≡◌, ℕ, ◌+◌, refl, ap, ◌∙◌, List, ◌∷◌, [], ◌++◌, map, take, reverse}
use Rattle.std.specs.Prelude.{ℤ, pos, not, if◌then◌else◌, Bool, true, false, find, slice_get, Option, Some, None, option_map}
use Rattle.std.specs.Option.{option_or}
use Rattle.std.specs.Ordering.{int_eq}
use Rattle.std.proofs.lemmas.List.Folds.{find-append}
use Rattle.std.proofs.lemmas.List.{reverse-append, map_push}
use Rattle.font_stock.specs.declared.font.Font.{Font}
use Rattle.hlist.specs.declared.item.Item.{Item}
use Rattle.hlist.specs.declared.item.Item.TheVariants.{Char, Lig, FontKern, Kern, Glue, Penalty, Disc, Box}
use Rattle.hlist.specs.declared.item.Sub.{Sub}
use Rattle.hlist.specs.declared.item.Sub.TheVariants.{Char as sub_char, Lig as sub_lig, FontKern as sub_kern}
use Rattle.break_rule.specs.declared.margin.Side.{Side}
use Rattle.break_rule.specs.declared.margin.Side.TheVariants.{Left, Right}
use Rattle.break_rule.specs.Lines.{margin, stops, hang_of, as_item, unbroken}
use Rattle.break_rule.proofs.Totals.{take_step}
use Rattle.break_rule.specs.Margins.{seen_from, sub_margin, subs_margin, item_margin, width_margin}

map-or : {A B : Type 0} (f : A → B) (o p : Option A) → option_map f (option_or o p) ≡ option_or (option_map f o) (option_map f p)
map-or f None p = refl
map-or f (Some x) p = refl

pub margin-append : (side : Side) (stock : List Font) (xs ys : List Item)
    → margin side stock (xs ++ ys) ≡ option_or (margin side stock xs) (margin side stock ys)
unfolding margin
margin-append side stock xs ys =
    ap (option_map (hang_of side stock)) (find-append stops xs ys) ∙ map-or (hang_of side stock) (find stops xs) (find stops ys)

width-kern : (side : Side) (stock : List Font) (width : ℤ) → margin side stock (Kern width ∷ []) ≡ width_margin width
unfolding margin
width-kern side stock width = by (int_eq width (pos 0))
  where
    by : (zero : Bool) → option_map (hang_of side stock) (cond (not zero) (Some (Kern width)) None) ≡ (if zero then None else Some (pos 0))
    by true = refl
    by false = refl

width-box : (side : Side) (stock : List Font) (width : ℤ) → margin side stock (Box width ∷ []) ≡ width_margin width
unfolding margin
width-box side stock width = by (int_eq width (pos 0))
  where
    by : (zero : Bool) → option_map (hang_of side stock) (cond (not zero) (Some (Box width)) None) ≡ (if zero then None else Some (pos 0))
    by true = refl
    by false = refl

pub sub-margin : (side : Side) (stock : List Font) (sub : Sub) → margin side stock (as_item sub ∷ []) ≡ sub_margin side stock sub
unfolding margin
sub-margin side stock (sub_char font code) = refl
sub-margin side stock (sub_lig font code covers) = refl
sub-margin side stock (sub_kern width left) = refl

single : (side : Side) (stock : List Font) (item : Item) → margin side stock (seen_from side (item ∷ [])) ≡ margin side stock (item ∷ [])
single Left stock item = refl
single Right stock item = refl

pub item-margin : (side : Side) (stock : List Font) (item : Item)
    → margin side stock (seen_from side (unbroken item)) ≡ item_margin side stock item
unfolding margin subs_margin
item-margin Left stock (Char font code) = refl
item-margin Right stock (Char font code) = refl
item-margin Left stock (Lig font code covers) = refl
item-margin Right stock (Lig font code covers) = refl
item-margin Left stock (FontKern width left) = refl
item-margin Right stock (FontKern width left) = refl
item-margin Left stock (Kern width) = width-kern Left stock width
item-margin Right stock (Kern width) = width-kern Right stock width
item-margin Left stock (Glue glue) = refl
item-margin Right stock (Glue glue) = refl
item-margin Left stock (Penalty value) = refl
item-margin Right stock (Penalty value) = refl
item-margin Left stock (Disc lists) = refl
item-margin Right stock (Disc lists) = refl
item-margin Left stock (Box width) = width-box Left stock width
item-margin Right stock (Box width) = width-box Right stock width

take-map-step : {X Y : Type 0} (f : X → Y) (xs : List X) (i : ℕ) (x : X) → slice_get xs i ≡ Some x
    → map f (take (i + 1) xs) ≡ map f (take i xs) ++ f x ∷ []
take-map-step f xs i x is = ap (map f) (take_step xs i x is) ∙ map_push f (take i xs) x

pub subs_left_step : (stock : List Font) (subs : List Sub) (i : ℕ) (sub : Sub) → slice_get subs i ≡ Some sub
    → subs_margin Left stock (take (i + 1) subs) ≡ option_or (subs_margin Left stock (take i subs)) (sub_margin Left stock sub)
unfolding subs_margin
subs_left_step stock subs i sub is =
    ap (margin Left stock) (take-map-step as_item subs i sub is)
    ∙ margin-append Left stock (map as_item (take i subs)) (as_item sub ∷ [])
    ∙ ap (option_or (margin Left stock (map as_item (take i subs)))) (sub-margin Left stock sub)

pub subs_right_step : (stock : List Font) (subs : List Sub) (i : ℕ) (sub : Sub) → slice_get subs i ≡ Some sub
    → subs_margin Right stock (take (i + 1) subs) ≡ option_or (sub_margin Right stock sub) (subs_margin Right stock (take i subs))
unfolding subs_margin
subs_right_step stock subs i sub is =
    ap (λ (seen : List Item). margin Right stock (reverse seen)) (take-map-step as_item subs i sub is)
    ∙ ap (margin Right stock) (reverse-append (map as_item (take i subs)) (as_item sub ∷ []))
    ∙ margin-append Right stock (as_item sub ∷ []) (reverse (map as_item (take i subs)))
    ∙ ap (λ (first : Option ℤ). option_or first (margin Right stock (reverse (map as_item (take i subs))))) (sub-margin Right stock sub)

pub subs_none : (side : Side) (stock : List Font) → subs_margin side stock [] ≡ None
unfolding subs_margin margin
subs_none Left stock = refl
subs_none Right stock = refl
