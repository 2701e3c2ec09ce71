-- What the first of some expansions is, part by part.
--     shared_in               over a whole list
use Rattle.std.proofs.Common.{◌≡◌, ℕ, refl, ap, sym, ◌∙◌, arith, suc, ◌+◌, take, List, ◌∷◌, [], ◌++◌}
use Rattle.std.specs.Prelude.{flat_map, filter_map, fold, Option, Some, None, slice_get}
use Rattle.std.specs.Option.{option_or}
use Rattle.std.proofs.lemmas.List.Elements.{filter_map-append}
use Rattle.std.proofs.lemmas.Grind.{flat_map-append}
use Rattle.font_stock.specs.declared.expand.Expand.{Expand}
use Rattle.font_stock.specs.declared.font.Font.{Font}
use Rattle.micro_num.specs.declared.disc.ThreeLists.{ThreeLists}
use Rattle.hlist.specs.declared.item.KernLeft.{KernLeft}
use Rattle.hlist.specs.declared.item.Item.{Item}
use Rattle.hlist.specs.declared.item.Item.TheVariants.{Char, Lig, FontKern, Kern, Glue, Penalty, Disc, Box}
use Rattle.hlist.specs.declared.item.Sub.{Sub}
use Rattle.hlist.specs.declared.item.Sub.TheVariants.{Char as sub_char, Lig as sub_lig, FontKern as sub_kern}
use Rattle.break_rule.proofs.Totals.{fold-step}
use Rattle.break_rule.specs.Fits.{fonts_of, fonts_of_sub, font_of_left, expand_of, expansions, first_of, shared_expansion}
use Rattle.break_rule.specs.Sharing.{first_in_left, first_in_sub, or_sub, first_in_subs, first_in_lists, first_in_item, or_item, first_in}

-- the first expansion of some fonts
abbrev of_fonts : List Font → List ℕ → Option Expand
of_fonts stock fonts = first_of (filter_map (expand_of stock) fonts)

or-assoc : {X : Type 0} (a b c : Option X) → option_or (option_or a b) c ≡ option_or a (option_or b c)
or-assoc None b c = refl
or-assoc (Some x) b c = refl

or-none : {X : Type 0} (a : Option X) → option_or a None ≡ a
or-none None = refl
or-none (Some x) = refl

first-append : (xs ys : List Expand) → first_of (xs ++ ys) ≡ option_or (first_of xs) (first_of ys)
first-append [] ys = refl
first-append (x ∷ xs) ys = refl

of_fonts-append : (stock : List Font) (xs ys : List ℕ) → of_fonts stock (xs ++ ys) ≡ option_or (of_fonts stock xs) (of_fonts stock ys)
of_fonts-append stock xs ys =
    ap first_of (filter_map-append (expand_of stock) xs ys)
    ∙ first-append (filter_map (expand_of stock) xs) (filter_map (expand_of stock) ys)

single : (stock : List Font) (font : ℕ) → of_fonts stock (font ∷ []) ≡ expand_of stock font
single stock font = by (expand_of stock font)
  where
    by : (own : Option Expand) → first_of (filter_map (λ (x : ℕ). own) (font ∷ [])) ≡ own
    by None = refl
    by (Some e) = refl

in-left : (stock : List Font) (left : Option KernLeft) → of_fonts stock (font_of_left left) ≡ first_in_left stock left
in-left stock None = refl
in-left stock (Some left) = single stock left.font

in-sub : (stock : List Font) (sub : Sub) → of_fonts stock (fonts_of_sub sub) ≡ first_in_sub stock sub
in-sub stock (sub_char font code) = single stock font
in-sub stock (sub_lig font code covers) = single stock font
in-sub stock (sub_kern width left) = in-left stock left

-- adding up the first of each
added-up : {X : Type 0} (stock : List Font) (fonts : X → List ℕ) (first : X → Option Expand)
    → ((x : X) → of_fonts stock (fonts x) ≡ first x) → (start : Option Expand) (xs : List X)
    → fold (λ found x. option_or found (first x)) start xs ≡ option_or start (of_fonts stock (flat_map fonts xs))
added-up stock fonts first each start [] = sym (or-none start)
added-up stock fonts first each start (x ∷ xs) =
    added-up stock fonts first each (option_or start (first x)) xs
    ∙ or-assoc start (first x) (of_fonts stock (flat_map fonts xs))
    ∙ ap (λ (own : Option Expand). option_or start (option_or own (of_fonts stock (flat_map fonts xs)))) (sym (each x))
    ∙ ap (option_or start) (sym (of_fonts-append stock (fonts x) (flat_map fonts xs)))

in-subs : (stock : List Font) (subs : List Sub) → of_fonts stock (flat_map fonts_of_sub subs) ≡ first_in_subs stock subs
unfolding first_in_subs
in-subs stock subs = sym (added-up stock fonts_of_sub (first_in_sub stock) (in-sub stock) None subs)

in-lists : (stock : List Font) (lists : ThreeLists Sub) → of_fonts stock (fonts_of (Disc lists)) ≡ first_in_lists stock lists
in-lists stock lists =
    let pre = flat_map fonts_of_sub lists.pre in
    let post = flat_map fonts_of_sub lists.post in
    let whole = flat_map fonts_of_sub lists.whole in
    let three = flat_map-append fonts_of_sub (lists.pre ++ lists.post) lists.whole
    ∙ ap (λ (front : List ℕ). front ++ whole) (flat_map-append fonts_of_sub lists.pre lists.post) in
    ap (of_fonts stock) three
    ∙ of_fonts-append stock (pre ++ post) whole
    ∙ ap (λ (front : Option Expand). option_or front (of_fonts stock whole)) (of_fonts-append stock pre post)
    ∙ or-assoc (of_fonts stock pre) (of_fonts stock post) (of_fonts stock whole)
    ∙ ap (λ (front : Option Expand). option_or front (option_or (of_fonts stock post) (of_fonts stock whole))) (in-subs stock lists.pre)
    ∙ ap (λ (middle : Option Expand). option_or (first_in_subs stock lists.pre) (option_or middle (of_fonts stock whole))) (in-subs stock lists.post)
    ∙ ap (λ (last : Option Expand). option_or (first_in_subs stock lists.pre) (option_or (first_in_subs stock lists.post) last)) (in-subs stock lists.whole)

in-item : (stock : List Font) (item : Item) → of_fonts stock (fonts_of item) ≡ first_in_item stock item
in-item stock (Char font code) = single stock font
in-item stock (Lig font code covers) = single stock font
in-item stock (FontKern width left) = in-left stock left
in-item stock (Kern width) = refl
in-item stock (Glue glue) = refl
in-item stock (Penalty value) = refl
in-item stock (Disc lists) = in-lists stock lists
in-item stock (Box width) = refl

pub shared_in : (stock : List Font) (items : List Item) → shared_expansion stock items ≡ first_in stock items
unfolding shared_expansion expansions first_in
shared_in stock items = sym (added-up stock fonts_of (first_in_item stock) (in-item stock) None items)

pub first_in_step : (stock : List Font) (items : List Item) (i : ℕ) (item : Item) → slice_get items i ≡ Some item
    → first_in stock (take (i + 1) items) ≡ option_or (first_in stock (take i items)) (first_in_item stock item)
unfolding first_in
first_in_step stock items i item is =
    let more : i + 1 ≡ suc i = omega arith in
    ap (λ (n : ℕ). fold (or_item stock) None (take n items)) more ∙ fold-step (or_item stock) None items i item is

pub first_in_subs_step : (stock : List Font) (subs : List Sub) (i : ℕ) (sub : Sub) → slice_get subs i ≡ Some sub
    → first_in_subs stock (take (i + 1) subs) ≡ option_or (first_in_subs stock (take i subs)) (first_in_sub stock sub)
unfolding first_in_subs
first_in_subs_step stock subs i sub is =
    let more : i + 1 ≡ suc i = omega arith in
    ap (λ (n : ℕ). fold (or_sub stock) None (take n subs)) more ∙ fold-step (or_sub stock) None subs i sub is
