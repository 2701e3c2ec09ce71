-- Fonts that give something to a line have a limit and a step.
--     IsShare of limit        what `of` reads off sums is added up, and a font gives some of it only within a limit
--     Names fonts limit       one of the fonts may be expanded within a limit
--     list-names              what some items give comes from a font that they name
--     measure-steps           so the fonts of a list have a step where a line of it measures something
--     margins-stretch, margins-shrink    the margins' glue changes nothing of it
use Rattle.std.proofs.Common.{◌≡◌, ◌≢◌, ℕ, zero, suc, ◌+◌, ◌*◌, ◌/◌, ◌%◌, ◌<◌, ◌⊎◌, inl, inr, List, [], ◌∷◌, ◌++◌, take, refl, ap, ◌∙◌, subst, arith, ℤ, pos, negsuc, ◌+ℤ◌, ◌-ℤ◌, ◌<ℤ◌}
use Rattle.std.specs.Prelude.{Option, Some, None, slice_get, fold, flat_map, filter_map, Contains}
use Rattle.std.specs.List.{cons_option}
use Rattle.std.proofs.lemmas.Int.{ints}
use Rattle.std.proofs.Math.Nat.{zero-mul}
use Rattle.std.proofs.lemmas.Nat.{div-add-mod'}
use Rattle.std.proofs.lemmas.Grind.{flat_map-append}
use Rattle.std.proofs.lemmas.List.Elements.{Contains-append_left, Contains-append_right, Contains-append_cases}
use Rattle.micro_num.specs.declared.disc.ThreeLists.{ThreeLists}
use Rattle.micro_num.specs.declared.glue.Glue.{Glue}
use Rattle.micro_num.specs.declared.params.Params.{Params}
use Rattle.font_stock.specs.declared.expand.Expand.{Expand}
use Rattle.font_stock.specs.declared.font.Font.{Font}
use Rattle.font_stock.specs.Fonts.{stretch_at, shrink_at}
use Rattle.font_stock.proofs.Limits.{HasLimit, stretch_none, shrink_none}
use Rattle.hlist.specs.declared.item.KernLeft.{KernLeft}
use Rattle.hlist.specs.declared.item.Item.{Item}
use Rattle.hlist.specs.declared.item.Item.TheVariants.{Char, Lig, FontKern, Kern, Glue as glue_item, Penalty, Disc, Box}
use Rattle.hlist.specs.declared.item.Sub.{Sub}
use Rattle.hlist.specs.declared.item.Sub.TheVariants.{Char as sub_char, Lig as sub_lig, FontKern as sub_kern}
use Rattle.break_rule.specs.declared.line.From.{From}
use Rattle.break_rule.specs.declared.line.From.TheVariants.{Start, After}
use Rattle.break_rule.specs.declared.sums.Sums.{Sums}
use Rattle.break_rule.specs.Adding.{plus, minus, nothing, rigid, sums_of_glue, expanding, sums_of_glyph, sums_of_kern, sums_of_sub, added_subs, sums_of, added}
use Rattle.break_rule.specs.Fits.{font_of_left, fonts_of_sub, fonts_of, expand_of, expansions, first_of, shared_expansion, with_margins}
use Rattle.break_rule.specs.Lines.{pre_at, post_at, pre_of, post_of, measure_sums}
use Rattle.break_rule.specs.Over.{AreAlike, Share}
use Rattle.break_rule.specs.Places.{begin_of}
use Rattle.break_rule.specs.Steps.{HasStep}

-- ---- numbers that aren't 0

zero_or_not : (z : ℤ) → (z ≡ pos 0) ⊎ (z ≢ pos 0)
zero_or_not (pos zero) = inl refl
zero_or_not (pos (suc n)) = inr (λ e. cc)
zero_or_not (negsuc n) = inr (λ e. cc)

sum-some : (a b : ℤ) → a +ℤ b ≢ pos 0 → (a ≢ pos 0) ⊎ (b ≢ pos 0)
sum-some a b some =
    elim (zero_or_not a) [
      | inl none ↦ inr (λ e. some (omega (arith, ints, none, e)))
      | inr given ↦ inl given
    ]

difference-some : (a b : ℤ) → a -ℤ b ≢ pos 0 → (a ≢ pos 0) ⊎ (b ≢ pos 0)
difference-some a b some =
    elim (zero_or_not a) [
      | inl none ↦ inr (λ e. some (omega (arith, ints, none, e)))
      | inr given ↦ inl given
    ]

-- ---- a font that gives something has a step

at_least_one : (n step limit : ℕ) → n * step + limit % step ≡ limit → limit % step ≡ 0 → 0 < limit → 0 < n
at_least_one zero step limit is whole some = absurd (omega (arith, zero-mul step))
at_least_one (suc n) step limit is whole some = omega arith

whole_steps : (limit step : ℕ) → 0 < limit → limit % step ≡ 0 → 0 < limit / step
whole_steps limit step some whole = at_least_one (limit / step) step limit (div-add-mod' limit step) whole some

stretch_at-some : (expand : Option Expand) (factor : ℕ) (w z : ℤ) → stretch_at expand factor w z ≢ pos 0 → HasLimit expand (λ e. e.stretch)
unfolding stretch_at
stretch_at-some None factor w z some = absurd (some refl)
stretch_at-some (Some e) factor w z some = by e.stretch refl
  where
    by : (n : ℕ) → e.stretch ≡ n → HasLimit (Some e) (λ x. x.stretch)
    by zero none = absurd (some (stretch_none (Some e) factor w z none))
    by (suc n) is =
        let more : 0 < e.stretch = omega arith in
        record { of = e; is = refl; some = more; whole = e.limits.stretch_whole; steps = whole_steps e.stretch e.step more e.limits.stretch_whole }

shrink_at-some : (expand : Option Expand) (factor : ℕ) (w z : ℤ) → shrink_at expand factor w z ≢ pos 0 → HasLimit expand (λ e. e.shrink)
unfolding shrink_at
shrink_at-some None factor w z some = absurd (some refl)
shrink_at-some (Some e) factor w z some = by e.shrink refl
  where
    by : (n : ℕ) → e.shrink ≡ n → HasLimit (Some e) (λ x. x.shrink)
    by zero none = absurd (some (shrink_none (Some e) factor w z none))
    by (suc n) is =
        let more : 0 < e.shrink = omega arith in
        record { of = e; is = refl; some = more; whole = e.limits.shrink_whole; steps = whole_steps e.shrink e.step more e.limits.shrink_whole }

-- ---- what is read off sums

record IsShare (of : Sums → ℤ) (limit : Expand → ℕ) : Type 0 where
  of_plus : (a b : Sums) → of (plus a b) ≡ of a +ℤ of b
  of_minus : (a b : Sums) → of (minus a b) ≡ of a -ℤ of b
  of_rigid : (width : ℤ) → of (rigid width) ≡ pos 0
  of_glue : (glue : Glue) → of (sums_of_glue glue) ≡ pos 0
  of_font : (font : Font) (code : ℕ) (fix width : ℤ) → of (expanding font code fix width) ≢ pos 0 → HasLimit font.expand limit
  alike : (a b : Expand) → AreAlike a b → limit a ≡ limit b

stretch-share : IsShare (λ s. s.font_stretch) (λ e. e.stretch)
unfolding plus minus sums_of_glue
stretch-share = record {
  of_plus = λ a b. refl;
  of_minus = λ a b. refl;
  of_rigid = λ width. refl;
  of_glue = λ glue. refl;
  of_font = λ font code fix width some. stretch_at-some font.expand _ fix font.size some;
  alike = λ a b same. same.stretch;
}

shrink-share : IsShare (λ s. s.font_shrink) (λ e. e.shrink)
unfolding plus minus sums_of_glue
shrink-share = record {
  of_plus = λ a b. refl;
  of_minus = λ a b. refl;
  of_rigid = λ width. refl;
  of_glue = λ glue. refl;
  of_font = λ font code fix width some. shrink_at-some font.expand _ fix font.size some;
  alike = λ a b same. same.shrink;
}

-- ---- the fonts that give

record Names (stock : List Font) (limit : Expand → ℕ) (fonts : List ℕ) : Type 0 where
  number : ℕ
  named : Contains fonts number
  limited : HasLimit (expand_of stock number) limit

names-one : (stock : List Font) (limit : Expand → ℕ) (number : ℕ) → HasLimit (expand_of stock number) limit
    → Names stock limit (number ∷ [])
names-one stock limit number limited = record { number = number; named = (0, omega arith, refl); limited = limited }

names-in : (stock : List Font) (limit : Expand → ℕ) (fonts others : List ℕ) → ((number : ℕ) → Contains fonts number → Contains others number)
    → Names stock limit fonts → Names stock limit others
names-in stock limit fonts others within names =
    record { number = names.number; named = within names.number names.named; limited = names.limited }

-- a font of the stock, if it is there, gives what it gives
glyph-names : (of : Sums → ℤ) (limit : Expand → ℕ) → IsShare of limit → (stock : List Font) (number code : ℕ)
    → of (sums_of_glyph stock number code) ≢ pos 0 → HasLimit (expand_of stock number) limit
unfolding sums_of_glyph
glyph-names of limit share stock number code some = by (slice_get stock number) refl
  where
    by : (font : Option Font) → slice_get stock number ≡ font → HasLimit (expand_of stock number) limit
    by None is = absurd ((rw is at some) (share.of_rigid (pos 0)))
    by (Some font) is = rw is (share.of_font font code _ _ (rw is at some))

kern-names : (of : Sums → ℤ) (limit : Expand → ℕ) → IsShare of limit → (stock : List Font) (width : ℤ) (left : KernLeft)
    → of (sums_of_kern stock width (Some left)) ≢ pos 0 → HasLimit (expand_of stock left.font) limit
unfolding sums_of_kern
kern-names of limit share stock width left some = by (slice_get stock left.font) refl
  where
    by : (font : Option Font) → slice_get stock left.font ≡ font → HasLimit (expand_of stock left.font) limit
    by None is = absurd ((rw is at some) (share.of_rigid width))
    by (Some font) is = rw is (share.of_font font left.code left.fix width (rw is at some))

left-names : (of : Sums → ℤ) (limit : Expand → ℕ) → IsShare of limit → (stock : List Font) (width : ℤ) (left : Option KernLeft)
    → of (sums_of_kern stock width left) ≢ pos 0 → Names stock limit (font_of_left left)
unfolding sums_of_kern
left-names of limit share stock width None some = absurd (some (share.of_rigid width))
left-names of limit share stock width (Some left) some =
    names-one stock limit left.font (kern-names of limit share stock width left some)

sub-names : (of : Sums → ℤ) (limit : Expand → ℕ) → IsShare of limit → (stock : List Font) (sub : Sub)
    → of (sums_of_sub stock sub) ≢ pos 0 → Names stock limit (fonts_of_sub sub)
sub-names of limit share stock (sub_char font code) some = names-one stock limit font (glyph-names of limit share stock font code some)
sub-names of limit share stock (sub_lig font code covers) some = names-one stock limit font (glyph-names of limit share stock font code some)
sub-names of limit share stock (sub_kern width left) some = left-names of limit share stock width left some

-- what a list adds to something comes from that, or from a font that the list names
fold-names : {T : Type 0} (of : Sums → ℤ) (limit : Expand → ℕ) → IsShare of limit → (stock : List Font) (value : T → Sums) (fonts : T → List ℕ)
    → ((one : T) → of (value one) ≢ pos 0 → Names stock limit (fonts one)) → (list : List T) (sums : Sums)
    → of (fold (λ before one. plus before (value one)) sums list) ≢ pos 0 → (of sums ≢ pos 0) ⊎ Names stock limit (flat_map fonts list)
fold-names of limit share stock value fonts names [] sums some = inl some
fold-names of limit share stock value fonts names (one ∷ list) sums some =
    elim (fold-names of limit share stock value fonts names list (plus sums (value one)) some) [
      | inl here ↦ elim (sum-some (of sums) (of (value one)) (λ e. here (share.of_plus sums (value one) ∙ e))) [
        | inl before ↦ inl before
        | inr own ↦ inr (names-in stock limit (fonts one) _ (λ number. Contains-append_left _ _ number) (names one own))
      ]
      | inr later ↦ inr (names-in stock limit (flat_map fonts list) _ (λ number. Contains-append_right _ _ number) later)
    ]

list-names : {T : Type 0} (of : Sums → ℤ) (limit : Expand → ℕ) → IsShare of limit → (stock : List Font) (value : T → Sums) (fonts : T → List ℕ)
    → ((one : T) → of (value one) ≢ pos 0 → Names stock limit (fonts one)) → (list : List T)
    → of (fold (λ before one. plus before (value one)) nothing list) ≢ pos 0 → Names stock limit (flat_map fonts list)
list-names of limit share stock value fonts names list some =
    elim (fold-names of limit share stock value fonts names list nothing some) [
      | inl none ↦ absurd (none (share.of_rigid (pos 0)))
      | inr there ↦ there
    ]

subs-names : (of : Sums → ℤ) (limit : Expand → ℕ) → IsShare of limit → (stock : List Font) (subs : List Sub)
    → of (added_subs stock subs) ≢ pos 0 → Names stock limit (flat_map fonts_of_sub subs)
unfolding added_subs
subs-names of limit share stock subs some =
    list-names of limit share stock (sums_of_sub stock) fonts_of_sub (sub-names of limit share stock) subs some

-- the lists of a discretionary name the discretionary's fonts
lists-fonts : (lists : ThreeLists Sub) → fonts_of (Disc lists)
    ≡ (flat_map fonts_of_sub lists.pre ++ flat_map fonts_of_sub lists.post) ++ flat_map fonts_of_sub lists.whole
lists-fonts lists =
    flat_map-append fonts_of_sub (lists.pre ++ lists.post) lists.whole
    ∙ ap (λ (front : List ℕ). front ++ flat_map fonts_of_sub lists.whole) (flat_map-append fonts_of_sub lists.pre lists.post)

whole-in : (lists : ThreeLists Sub) (number : ℕ) → Contains (flat_map fonts_of_sub lists.whole) number → Contains (fonts_of (Disc lists)) number
whole-in lists number there =
    let pre = flat_map fonts_of_sub lists.pre in
    let post = flat_map fonts_of_sub lists.post in
    rw (lists-fonts lists) (Contains-append_right (pre ++ post) (flat_map fonts_of_sub lists.whole) number there)

post-in : (lists : ThreeLists Sub) (number : ℕ) → Contains (flat_map fonts_of_sub lists.post) number → Contains (fonts_of (Disc lists)) number
post-in lists number there =
    let pre = flat_map fonts_of_sub lists.pre in
    let post = flat_map fonts_of_sub lists.post in
    rw (lists-fonts lists)
    (Contains-append_left (pre ++ post) (flat_map fonts_of_sub lists.whole) number (Contains-append_right pre post number there))

pre-in : (lists : ThreeLists Sub) (number : ℕ) → Contains (flat_map fonts_of_sub lists.pre) number → Contains (fonts_of (Disc lists)) number
pre-in lists number there =
    let pre = flat_map fonts_of_sub lists.pre in
    let post = flat_map fonts_of_sub lists.post in
    rw (lists-fonts lists)
    (Contains-append_left (pre ++ post) (flat_map fonts_of_sub lists.whole) number (Contains-append_left pre post number there))

item-names : (of : Sums → ℤ) (limit : Expand → ℕ) → IsShare of limit → (stock : List Font) (item : Item)
    → of (sums_of stock item) ≢ pos 0 → Names stock limit (fonts_of item)
item-names of limit share stock (Char font code) some = names-one stock limit font (glyph-names of limit share stock font code some)
item-names of limit share stock (Lig font code covers) some = names-one stock limit font (glyph-names of limit share stock font code some)
item-names of limit share stock (FontKern width left) some = left-names of limit share stock width left some
item-names of limit share stock (Kern width) some = absurd (some (share.of_rigid width))
item-names of limit share stock (glue_item glue) some = absurd (some (share.of_glue glue))
item-names of limit share stock (Penalty value) some = absurd (some (share.of_rigid (pos 0)))
item-names of limit share stock (Disc lists) some =
    names-in stock limit _ _ (whole-in lists) (subs-names of limit share stock lists.whole some)
item-names of limit share stock (Box width) some = absurd (some (share.of_rigid width))

-- what the first items name, all of them name
take-in : (fonts : Item → List ℕ) (n : ℕ) (items : List Item) (number : ℕ) → Contains (flat_map fonts (take n items)) number
    → Contains (flat_map fonts items) number
take-in fonts zero items number there = absurd (let below = there.1 in omega (arith, below))
take-in fonts (suc n) [] number there = there
take-in fonts (suc n) (item ∷ items) number there =
    elim (Contains-append_cases (fonts item) (flat_map fonts (take n items)) number there) [
      | inl here ↦ Contains-append_left _ _ number here
      | inr later ↦ Contains-append_right _ _ number (take-in fonts n items number later)
    ]

added-names : (of : Sums → ℤ) (limit : Expand → ℕ) → IsShare of limit → (stock : List Font) (items : List Item) (n : ℕ)
    → of (added stock (take n items)) ≢ pos 0 → Names stock limit (flat_map fonts_of items)
unfolding added
added-names of limit share stock items n some =
    names-in stock limit _ _ (take-in fonts_of n items)
    (list-names of limit share stock (sums_of stock) fonts_of (item-names of limit share stock) (take n items) some)

-- a list of the discretionary at a place names fonts of the list
record IsPart (part : Option Item → List Sub) : Type 0 where
  none : part None ≡ []
  of_item : (item : Item) (number : ℕ) → Contains (flat_map fonts_of_sub (part (Some item))) number → Contains (fonts_of item) number

pre-of_item : (item : Item) (number : ℕ) → Contains (flat_map fonts_of_sub (pre_at (Some item))) number → Contains (fonts_of item) number
pre-of_item (Char font code) number there = absurd (let below = there.1 in omega (arith, below))
pre-of_item (Lig font code covers) number there = absurd (let below = there.1 in omega (arith, below))
pre-of_item (FontKern width left) number there = absurd (let below = there.1 in omega (arith, below))
pre-of_item (Kern width) number there = there
pre-of_item (glue_item glue) number there = there
pre-of_item (Penalty value) number there = there
pre-of_item (Disc lists) number there = pre-in lists number there
pre-of_item (Box width) number there = there

post-of_item : (item : Item) (number : ℕ) → Contains (flat_map fonts_of_sub (post_at (Some item))) number → Contains (fonts_of item) number
post-of_item (Char font code) number there = absurd (let below = there.1 in omega (arith, below))
post-of_item (Lig font code covers) number there = absurd (let below = there.1 in omega (arith, below))
post-of_item (FontKern width left) number there = absurd (let below = there.1 in omega (arith, below))
post-of_item (Kern width) number there = there
post-of_item (glue_item glue) number there = there
post-of_item (Penalty value) number there = there
post-of_item (Disc lists) number there = post-in lists number there
post-of_item (Box width) number there = there

part-in : (part : Option Item → List Sub) → IsPart part → (items : List Item) (place number : ℕ)
    → Contains (flat_map fonts_of_sub (part (slice_get items place))) number → Contains (flat_map fonts_of items) number
part-in part is [] place number there = rw is.none at there
part-in part is (item ∷ items) zero number there = Contains-append_left _ _ number (is.of_item item number there)
part-in part is (item ∷ items) (suc place) number there =
    Contains-append_right _ _ number (part-in part is items place number there)

pre-names : (of : Sums → ℤ) (limit : Expand → ℕ) → IsShare of limit → (stock : List Font) (items : List Item) (place : ℕ)
    → of (added_subs stock (pre_of items place)) ≢ pos 0 → Names stock limit (flat_map fonts_of items)
unfolding pre_of
pre-names of limit share stock items place some =
    names-in stock limit _ _ (part-in pre_at (record { none = refl; of_item = pre-of_item }) items place)
    (subs-names of limit share stock (pre_at (slice_get items place)) some)

post-names : (of : Sums → ℤ) (limit : Expand → ℕ) → IsShare of limit → (stock : List Font) (items : List Item) (from : From)
    → of (added_subs stock (post_of items from)) ≢ pos 0 → Names stock limit (flat_map fonts_of items)
unfolding post_of added_subs
post-names of limit share stock items Start some = absurd (some (share.of_rigid (pos 0)))
post-names of limit share stock items (After at) some =
    names-in stock limit _ _ (part-in post_at (record { none = refl; of_item = post-of_item }) items at)
    (subs-names of limit share stock (post_at (slice_get items at)) some)

-- what a line measures comes from fonts of its list
measure-names : (of : Sums → ℤ) (limit : Expand → ℕ) → IsShare of limit → (stock : List Font) (items : List Item) (from : From) (to : ℕ)
    → of (measure_sums stock items from to) ≢ pos 0 → Names stock limit (flat_map fonts_of items)
unfolding measure_sums
measure-names of limit share stock items from to some =
    let upto = added stock (take to items) in
    let before = added stock (take (begin_of items from) items) in
    let pre = added_subs stock (pre_of items to) in
    let post = added_subs stock (post_of items from) in
    elim (sum-some (of (plus (minus upto before) pre)) (of post) (λ e. some (share.of_plus _ _ ∙ e))) [
      | inl front ↦ elim (sum-some (of (minus upto before)) (of pre) (λ e. front (share.of_plus _ _ ∙ e))) [
        | inl own ↦ elim (difference-some (of upto) (of before) (λ e. own (share.of_minus _ _ ∙ e))) [
          | inl first ↦ added-names of limit share stock items to first
          | inr second ↦ added-names of limit share stock items (begin_of items from) second
        ]
        | inr there ↦ pre-names of limit share stock items to there
      ]
      | inr behind ↦ post-names of limit share stock items from behind
    ]

-- ---- what the expandable fonts share

cons-has : {Y : Type 0} (first : Option Y) (ys : List Y) (y : Y) → Contains ys y → Contains (cons_option first ys) y
cons-has None ys y there = there
cons-has (Some first) ys y (k, below, is) = (suc k, omega (arith, below), is)

filter_map-has : {X Y : Type 0} (h : X → Option Y) (xs : List X) (x : X) (y : Y) → Contains xs x → h x ≡ Some y → Contains (filter_map h xs) y
filter_map-has h [] x y (k, below, is) gives = absurd (omega (arith, below))
filter_map-has h (z ∷ zs) x y (zero, below, is) gives =
    let here : h z ≡ Some y = ap h is ∙ gives in
    rw here (0, omega arith, refl)
filter_map-has h (z ∷ zs) x y (suc k, below, is) gives =
    cons-has (h z) (filter_map h zs) y (filter_map-has h zs x y (k, omega (arith, below), is) gives)

same-steps : (limit : Expand → ℕ) (a b : Expand) → limit a ≡ limit b → a.step ≡ b.step → 0 < limit a / a.step → 0 < limit b / b.step
same-steps limit a b e f steps = subst (λ (n : ℕ). 0 < n) (ap (λ (n : ℕ). n / a.step) e ∙ ap (λ (n : ℕ). limit b / n) f) steps

first-steps : (of : Sums → ℤ) (limit : Expand → ℕ) → IsShare of limit → (expands : List Expand)
    → ((a b : Expand) → Contains expands a → Contains expands b → AreAlike a b) → (e : Expand) → Contains expands e → 0 < limit e / e.step
    → HasStep (first_of expands) limit
first-steps of limit share [] alike e (k, below, is) steps = absurd (omega (arith, below))
first-steps of limit share (first ∷ others) alike e there steps =
    let same = alike e first there (0, omega arith, refl) in
    record { of = first; is = refl; steps = same-steps limit e first (share.alike e first same) same.step steps }

measure-steps : (of : Sums → ℤ) (limit : Expand → ℕ) → IsShare of limit → (params : Params) (stock : List Font) (items : List Item)
    (from : From) (to : ℕ) → Share params stock items → pos 0 <ℤ params.pdfadjustspacing
    → of (measure_sums stock items from to) ≢ pos 0 → HasStep (shared_expansion stock items) limit
unfolding shared_expansion expansions
measure-steps of limit share params stock items from to alike level some =
    let names = measure-names of limit share stock items from to some in
    let limited = names.limited in
    first-steps of limit share _ (alike level) limited.of
    (filter_map-has (expand_of stock) (flat_map fonts_of items) names.number limited.of names.named limited.is)
    limited.steps

pub stretch-steps : (params : Params) (stock : List Font) (items : List Item) (from : From) (to : ℕ) → Share params stock items
    → pos 0 <ℤ params.pdfadjustspacing → pos 0 <ℤ (measure_sums stock items from to).font_stretch
    → HasStep (shared_expansion stock items) (λ e. e.stretch)
stretch-steps params stock items from to alike level positive =
    measure-steps (λ s. s.font_stretch) (λ e. e.stretch) stretch-share params stock items from to alike level
    (λ none. omega (arith, ints, none, positive))

pub shrink-steps : (params : Params) (stock : List Font) (items : List Item) (from : From) (to : ℕ) → Share params stock items
    → pos 0 <ℤ params.pdfadjustspacing → pos 0 <ℤ (measure_sums stock items from to).font_shrink
    → HasStep (shared_expansion stock items) (λ e. e.shrink)
shrink-steps params stock items from to alike level positive =
    measure-steps (λ s. s.font_shrink) (λ e. e.shrink) shrink-share params stock items from to alike level
    (λ none. omega (arith, ints, none, positive))

-- ---- the glue at a line's margins gives nothing

pub margins-stretch : (params : Params) (sums : Sums) → (with_margins params sums).font_stretch ≡ sums.font_stretch
unfolding plus sums_of_glue
margins-stretch params sums = omega (arith, ints)

pub margins-shrink : (params : Params) (sums : Sums) → (with_margins params sums).font_shrink ≡ sums.font_shrink
unfolding plus sums_of_glue
margins-shrink params sums = omega (arith, ints)
