-- Fonts that expand alike, by a test on the numbers of fonts.
--     fits                   how far a font may be expanded is as a model has it, where it may be at all
--     share_from_fonts       a list whose fonts pass this test shares its expansion
--     fonts_from_share       and the other way round
--     same_fonts_share       so a list of no other fonts shares it too
use Rattle.std.proofs.Common.{◌≡◌, ℕ, refl, sym, ◌∙◌, Bool, true, false, ◌&&◌, ◌==◌, List, [], ◌∷◌, ◌++◌, pos, ◌<ℤ◌, arith}
use Rattle.std.specs.Prelude.{All, Contains, filter_map, flat_map, Option, Some, None}
use Rattle.std.specs.List.{cons_option}
use Rattle.std.proofs.lemmas.Bool.{and_parts}
use Rattle.std.proofs.lemmas.List.Elements.{All-nil, All-cons, All-head, All-tail, All-append, All-contains, All-contains_itself, All-weaker}
use Rattle.font_stock.specs.declared.expand.Expand.{Expand}
use Rattle.font_stock.specs.declared.font.Font.{Font}
use Rattle.micro_num.specs.declared.disc.ThreeLists.{ThreeLists}
use Rattle.micro_num.specs.declared.params.Params.{Params}
use Rattle.hlist.specs.declared.item.KernLeft.{KernLeft}
use Rattle.hlist.specs.declared.item.Item.{Item}
use Rattle.hlist.specs.declared.item.Item.TheVariants.{Char, Lig, FontKern, Kern, Glue, Penalty, Disc, Box}
use Rattle.hlist.specs.declared.item.Sub.{Sub}
use Rattle.hlist.specs.declared.item.Sub.TheVariants.{Char as sub_char, Lig as sub_lig, FontKern as sub_kern}
use Rattle.hlist_build.specs.Mixing.{expand_alike}
use Rattle.hlist_hyph.specs.Fonts.{PassesLeft, PassesSub, PassLists, Passes}
use Rattle.break_rule.specs.Fits.{expand_of, expansions, first_of, font_of_left, fonts_of_sub, fonts_of}
use Rattle.break_rule.specs.Over.{AreAlike, Share}

abbrev pub fits : Option Expand → Option Expand → Bool
fits model None = true
fits None (Some e) = false
fits (Some f) (Some e) = expand_alike f e

abbrev pub fits_in : List Font → Option Expand → ℕ → Bool
fits_in stock model number = fits model (expand_of stock number)

same-parts : (f e : Expand) → expand_alike f e ≡ true → AreAlike f e
same-parts f e h =
    let parts = and_parts (f.stretch == e.stretch) (f.shrink == e.shrink && f.step == e.step) h in
    let more = and_parts (f.shrink == e.shrink) (f.step == e.step) parts.1 in
    record { stretch = grind (arith, parts.0); shrink = grind (arith, more.0); step = grind (arith, more.1) }

alike-parts : (f e : Expand) → AreAlike f e → expand_alike f e ≡ true
alike-parts f e h = let s = h.stretch in let t = h.shrink in let u = h.step in rw (sym s, sym t, sym u) (own f)
  where
    own : (f : Expand) → expand_alike f f ≡ true
    own f = grind arith

all-front : {X : Type 0} (P : X → Type 0) (xs ys : List X) → All P (xs ++ ys) → All P xs
all-front P [] ys all = All-nil P
all-front P (x ∷ xs) ys all = All-cons P x xs (All-head P x (xs ++ ys) all) (all-front P xs ys (All-tail P x (xs ++ ys) all))

all-behind : {X : Type 0} (P : X → Type 0) (xs ys : List X) → All P (xs ++ ys) → All P ys
all-behind P [] ys all = all
all-behind P (x ∷ xs) ys all = all-behind P xs ys (All-tail P x (xs ++ ys) all)

module _ (test : ℕ → Bool) where
  left-fonts : (left : Option KernLeft) → PassesLeft test left → All (λ n. test n ≡ true) (font_of_left left)
  left-fonts None h = All-nil (λ n. test n ≡ true)
  left-fonts (Some left) h = All-cons (λ n. test n ≡ true) left.font [] h (All-nil (λ n. test n ≡ true))

  one : (n : ℕ) → test n ≡ true → All (λ n. test n ≡ true) (n ∷ [])
  one n h = All-cons (λ n. test n ≡ true) n [] h (All-nil (λ n. test n ≡ true))

  sub-fonts : (sub : Sub) → PassesSub test sub → All (λ n. test n ≡ true) (fonts_of_sub sub)
  sub-fonts (sub_char font code) h = one font h
  sub-fonts (sub_lig font code covers) h = one font h
  sub-fonts (sub_kern width left) h = left-fonts left h

  subs-fonts : (subs : List Sub) → All (PassesSub test) subs → All (λ n. test n ≡ true) (flat_map fonts_of_sub subs)
  subs-fonts [] all = All-nil (λ n. test n ≡ true)
  subs-fonts (sub ∷ subs) all =
      All-append (λ n. test n ≡ true) (fonts_of_sub sub) (flat_map fonts_of_sub subs)
      (sub-fonts sub (All-head (PassesSub test) sub subs all)) (subs-fonts subs (All-tail (PassesSub test) sub subs all))

  item-fonts : (item : Item) → Passes test item → All (λ n. test n ≡ true) (fonts_of item)
  item-fonts (Char font code) h = one font h
  item-fonts (Lig font code covers) h = one font h
  item-fonts (FontKern width left) h = left-fonts left h
  item-fonts (Disc lists) h =
      subs-fonts (lists.pre ++ lists.post ++ lists.whole)
      (All-append (PassesSub test) (lists.pre ++ lists.post) lists.whole
      (All-append (PassesSub test) lists.pre lists.post h.pre h.post) h.whole)
  item-fonts (Kern width) h = All-nil (λ n. test n ≡ true)
  item-fonts (Glue glue) h = All-nil (λ n. test n ≡ true)
  item-fonts (Penalty value) h = All-nil (λ n. test n ≡ true)
  item-fonts (Box width) h = All-nil (λ n. test n ≡ true)

  items-fonts : (items : List Item) → All (Passes test) items → All (λ n. test n ≡ true) (flat_map fonts_of items)
  items-fonts [] all = All-nil (λ n. test n ≡ true)
  items-fonts (item ∷ items) all =
      All-append (λ n. test n ≡ true) (fonts_of item) (flat_map fonts_of items)
      (item-fonts item (All-head (Passes test) item items all)) (items-fonts items (All-tail (Passes test) item items all))

  -- ---- back from the fonts to the items

  fonts-left : (left : Option KernLeft) → All (λ n. test n ≡ true) (font_of_left left) → PassesLeft test left
  fonts-left None h = tt
  fonts-left (Some left) h = All-head (λ n. test n ≡ true) left.font [] h

  fonts-sub : (sub : Sub) → All (λ n. test n ≡ true) (fonts_of_sub sub) → PassesSub test sub
  fonts-sub (sub_char font code) h = All-head (λ n. test n ≡ true) font [] h
  fonts-sub (sub_lig font code covers) h = All-head (λ n. test n ≡ true) font [] h
  fonts-sub (sub_kern width left) h = fonts-left left h

  fonts-subs : (subs : List Sub) → All (λ n. test n ≡ true) (flat_map fonts_of_sub subs) → All (PassesSub test) subs
  fonts-subs [] all = All-nil (PassesSub test)
  fonts-subs (sub ∷ subs) all =
      All-cons (PassesSub test) sub subs
      (fonts-sub sub (all-front (λ n. test n ≡ true) (fonts_of_sub sub) (flat_map fonts_of_sub subs) all))
      (fonts-subs subs (all-behind (λ n. test n ≡ true) (fonts_of_sub sub) (flat_map fonts_of_sub subs) all))

  fonts-lists : (lists : ThreeLists Sub) → All (PassesSub test) (lists.pre ++ lists.post ++ lists.whole) → PassLists test lists
  fonts-lists lists all =
      let front = all-front (PassesSub test) (lists.pre ++ lists.post) lists.whole all in
      record {
        pre = all-front (PassesSub test) lists.pre lists.post front;
        post = all-behind (PassesSub test) lists.pre lists.post front;
        whole = all-behind (PassesSub test) (lists.pre ++ lists.post) lists.whole all;
      }

  fonts-item : (item : Item) → All (λ n. test n ≡ true) (fonts_of item) → Passes test item
  fonts-item (Char font code) h = All-head (λ n. test n ≡ true) font [] h
  fonts-item (Lig font code covers) h = All-head (λ n. test n ≡ true) font [] h
  fonts-item (FontKern width left) h = fonts-left left h
  fonts-item (Disc lists) h = fonts-lists lists (fonts-subs (lists.pre ++ lists.post ++ lists.whole) h)
  fonts-item (Kern width) h = tt
  fonts-item (Glue glue) h = tt
  fonts-item (Penalty value) h = tt
  fonts-item (Box width) h = tt

  fonts-items : (items : List Item) → All (λ n. test n ≡ true) (flat_map fonts_of items) → All (Passes test) items
  fonts-items [] all = All-nil (Passes test)
  fonts-items (item ∷ items) all =
      All-cons (Passes test) item items
      (fonts-item item (all-front (λ n. test n ≡ true) (fonts_of item) (flat_map fonts_of items) all))
      (fonts-items items (all-behind (λ n. test n ≡ true) (fonts_of item) (flat_map fonts_of items) all))

-- ---- from the fonts to how far they may be expanded

one-kept : (model : Option Expand) (own : Option Expand) (rest : List Expand) → fits model own ≡ true
    → All (λ e. fits model (Some e) ≡ true) rest → All (λ e. fits model (Some e) ≡ true) (cons_option own rest)
one-kept model None rest h all = all
one-kept model (Some e) rest h all = All-cons (λ e. fits model (Some e) ≡ true) e rest h all

all-kept : (stock : List Font) (model : Option Expand) (numbers : List ℕ) → All (λ n. fits_in stock model n ≡ true) numbers
    → All (λ e. fits model (Some e) ≡ true) (filter_map (expand_of stock) numbers)
all-kept stock model [] all = All-nil (λ e. fits model (Some e) ≡ true)
all-kept stock model (n ∷ numbers) all =
    one-kept model (expand_of stock n) (filter_map (expand_of stock) numbers) (All-head (λ n. fits_in stock model n ≡ true) n numbers all)
    (all-kept stock model numbers (All-tail (λ n. fits_in stock model n ≡ true) n numbers all))

own-back : (model : Option Expand) (own : Option Expand) (rest : List Expand)
    → All (λ e. fits model (Some e) ≡ true) (cons_option own rest)
    → (fits model own ≡ true) × All (λ e. fits model (Some e) ≡ true) rest
own-back model None rest all = (refl, all)
own-back model (Some e) rest all =
    (All-head (λ e. fits model (Some e) ≡ true) e rest all, All-tail (λ e. fits model (Some e) ≡ true) e rest all)

all-back : (stock : List Font) (model : Option Expand) (numbers : List ℕ)
    → All (λ e. fits model (Some e) ≡ true) (filter_map (expand_of stock) numbers) → All (λ n. fits_in stock model n ≡ true) numbers
all-back stock model [] all = All-nil (λ n. fits_in stock model n ≡ true)
all-back stock model (n ∷ numbers) all =
    let parts = own-back model (expand_of stock n) (filter_map (expand_of stock) numbers) all in
    All-cons (λ n. fits_in stock model n ≡ true) n numbers parts.0 (all-back stock model numbers parts.1)

two-alike : (model : Option Expand) (a b : Expand) → fits model (Some a) ≡ true → fits model (Some b) ≡ true → AreAlike a b
two-alike None a b g h = absurd (cc)
two-alike (Some f) a b g h =
    let x = same-parts f a g in
    let y = same-parts f b h in
    record { stretch = sym x.stretch ∙ y.stretch; shrink = sym x.shrink ∙ y.shrink; step = sym x.step ∙ y.step }

pub share_from_fonts : (params : Params) (stock : List Font) (model : Option Expand) (items : List Item)
    → All (Passes (fits_in stock model)) items → Share params stock items
unfolding expansions
share_from_fonts params stock model items passes = λ level a b first second.
    let all = all-kept stock model (flat_map fonts_of items) (items-fonts (fits_in stock model) items passes) in
    two-alike model a b (All-contains (λ e. fits model (Some e) ≡ true) _ a all first)
    (All-contains (λ e. fits model (Some e) ≡ true) _ b all second)

all-like : (es : List Expand) → ((a b : Expand) → Contains es a → Contains es b → AreAlike a b)
    → All (λ e. fits (first_of es) (Some e) ≡ true) es
all-like [] like = All-nil (λ e. fits None (Some e) ≡ true)
all-like (f ∷ es) like =
    let itself = All-contains_itself (f ∷ es) in
    let first : Contains (f ∷ es) f = All-head (Contains (f ∷ es)) f es itself in
    All-weaker (Contains (f ∷ es)) (λ e. expand_alike f e ≡ true) (λ (e : Expand) (has : Contains (f ∷ es) e). alike-parts f e (like f e first has))
    (f ∷ es) itself

pub fonts_from_share : (params : Params) (stock : List Font) (items : List Item) → Share params stock items → pos 0 <ℤ params.pdfadjustspacing
    → All (Passes (fits_in stock (first_of (expansions stock items)))) items
unfolding expansions
fonts_from_share params stock items share level =
    let es = filter_map (expand_of stock) (flat_map fonts_of items) in
    fonts-items (fits_in stock (first_of es)) items
    (all-back stock (first_of es) (flat_map fonts_of items) (all-like es (share level)))

pub same_fonts_share : (params : Params) (stock : List Font) (items made : List Item)
    → ((test : ℕ → Bool) → All (Passes test) items → All (Passes test) made) → Share params stock items → Share params stock made
same_fonts_share params stock items made keeps share = λ level.
    let model = first_of (expansions stock items) in
    share_from_fonts params stock model made (keeps (fits_in stock model) (fonts_from_share params stock items share level)) level
