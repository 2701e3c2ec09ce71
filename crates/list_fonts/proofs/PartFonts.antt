-- The fonts of a paragraph's list are those in which its parts stand.
--     list_names             the fonts of the list pass every test that those pass
--     paragraph_shares       so where those expand alike, the list's do
--     built_shares           as building answers it
use Rattle.std.proofs.Common.{◌≡◌, ◌⊎◌, inl, inr, ℕ, ◌-◌, ℤ, pos, Bool, true, false, List, [], ◌∷◌, ◌++◌, length, take, refl, ap, sym, subst, ◌∙◌, ◌<ℤ◌, int_lt, not, find, arith}
use Rattle.std.specs.Prelude.{⊤, Option, Some, None, Result, Ok, Err, slice_get, flat_map, nat_lt, All, option_and_then, option_map, option_to_list, if◌then◌else◌}
use Rattle.std.proofs.lemmas.Int.{ints}
use Rattle.std.proofs.lemmas.List.Elements.{All-nil, All-cons, All-head, All-tail, All-append, All-take}
use Rattle.font_stock.specs.Fonts.{hyphen_of}
use Rattle.font_stock.specs.declared.expand.Expand.{Expand}
use Rattle.font_stock.specs.declared.font.Font.{Font}
use Rattle.lig_kern.specs.Outcome.{outcome}
use Rattle.lig_kern.specs.declared.fault.LigFault.{LigFault}
use Rattle.lig_kern.specs.declared.glyph.Glyph.{Glyph}
use Rattle.lig_kern.specs.declared.glyph.Glyph.TheVariants.{Char as glyph_char, Lig as glyph_lig, Kern as glyph_kern}
use Rattle.micro_num.specs.declared.disc.ThreeLists.{ThreeLists}
use Rattle.micro_num.specs.declared.glue.Glue.{Glue}
use Rattle.micro_num.specs.declared.paragraph.Par.{Par}
use Rattle.micro_num.specs.declared.paragraph.PartAt.{PartAt}
use Rattle.micro_num.specs.declared.params.Params.{Params}
use Rattle.micro_num.specs.declared.part.Part.{Part}
use Rattle.micro_num.specs.declared.part.Part.TheVariants.{Char, Space, Normal, Tie, Kern, Skip, Penalty, Hyphen, Disc, Font as font_part}
use Rattle.micro_num.specs.declared.tables.Tables.{Tables}
use Rattle.hlist.specs.Counts.{item_count}
use Rattle.hlist.specs.declared.item.HList.{HList}
use Rattle.hlist.specs.declared.item.Item.{Item}
use Rattle.hlist.specs.declared.item.Item.TheVariants.{Glue as item_glue, Penalty as item_penalty}
use Rattle.hlist.specs.declared.item.Sub.{Sub}
use Rattle.hlist.specs.declared.item.Sub.TheVariants.{Char as sub_char, Lig as sub_lig, FontKern as sub_kern}
use Rattle.hlist_build.specs.Counts.{part_count}
use Rattle.hlist_build.specs.Given.{behind, joined, space_in, normal_in, tie_in, single, given_at, given, given_behind}
use Rattle.hlist_build.specs.Mixing.{stands_in, standing, expanding_of, expanding, expand_alike, other_than, first_other, mixed}
use Rattle.hlist_build.specs.Paragraph.{indent_items, without_last_glue, ended, most_items, counted, finished, by_mixed, set_items, list_of}
use Rattle.hlist_build.specs.Parts.{run_codes, goes_on, factor_before, font_after, font_before}
use Rattle.hlist_runs.specs.Runs.{left_of, sub_of, subs_of}
use Rattle.hlist_build.specs.Runs.{item_of, ends_in_hyphen, empty_disc, with_break, run_items, run_end, run_given, list_end, list_given, disc_end, disc_given, hyphen_sub, hyphen_disc, in_font, run_in}
use Rattle.hlist_build.specs.Spaces.{normal_space, extra_space, current_in}
use Rattle.hlist_build.specs.declared.current.Current.{Current}
use Rattle.hlist_build.specs.declared.fault.ParFault.{ParFault}
use Rattle.hlist_build.specs.declared.fault.ParFault.TheVariants.{TooManyItems, NoMemory}
use Rattle.hlist_build.specs.declared.mixing.Expanding.{Expanding}
use Rattle.hlist_build.proofs.PartLemmas.{font-push}
use Rattle.hlist_hyph.specs.Fonts.{PassesLeft, PassesSub, Passes}
use Rattle.break_rule.specs.Fits.{expand_of}
use Rattle.break_rule.specs.Over.{Share}
use Rattle.list_fonts.proofs.AlikeLaws.{fits, fits_in, share_from_fonts}

module _ (test : ℕ → Bool) where
  abbrev Good : Result (List Item) ParFault → Type 0
  Good (Ok items) = All (Passes test) items
  Good (Err fault) = ⊤

  abbrev GoodSubs : Result (List Sub) ParFault → Type 0
  GoodSubs (Ok subs) = All (PassesSub test) subs
  GoodSubs (Err fault) = ⊤

  one-item : (item : Item) → Passes test item → All (Passes test) (item ∷ [])
  one-item item good = All-cons (Passes test) item [] good (All-nil (Passes test))

  two-items : (a b : Item) → Passes test a → Passes test b → All (Passes test) (a ∷ b ∷ [])
  two-items a b good more = All-cons (Passes test) a (b ∷ []) good (one-item b more)

  -- ---- what text gives in a font that passes

  left-good : (number : ℕ) → test number ≡ true → (before : Option Glyph) (fix : ℤ) → PassesLeft test (left_of number before fix)
  left-good number h None fix = tt
  left-good number h (Some (glyph_char code at)) fix = h
  left-good number h (Some (glyph_lig code from to)) fix = h
  left-good number h (Some (glyph_kern other)) fix = tt

  sub-good : (number : ℕ) → test number ≡ true → (size : ℤ) (codes : List ℕ) (before : Option Glyph) (glyph : Glyph)
      → PassesSub test (sub_of number size codes before glyph)
  sub-good number h size codes before (glyph_char code at) = h
  sub-good number h size codes before (glyph_lig code from to) = h
  sub-good number h size codes before (glyph_kern fix) = left-good number h before fix

  subs-good : (number : ℕ) → test number ≡ true → (size : ℤ) (codes : List ℕ) (before : Option Glyph) (glyphs : List Glyph)
      → All (PassesSub test) (subs_of number size codes before glyphs)
  unfolding subs_of
  subs-good number h size codes before [] = All-nil (PassesSub test)
  subs-good number h size codes before (glyph ∷ glyphs) =
      All-cons (PassesSub test) (sub_of number size codes before glyph) (subs_of number size codes (Some glyph) glyphs)
      (sub-good number h size codes before glyph) (subs-good number h size codes (Some glyph) glyphs)

  list-good : (number : ℕ) → test number ≡ true → (font : Font) (offset : ℕ) (codes : List ℕ) (end : Result (List Glyph) LigFault)
      → GoodSubs (list_end number font offset codes end)
  list-good number h font offset codes (Ok glyphs) = subs-good number h font.size codes None glyphs
  list-good number h font offset codes (Err fault) = tt

  given-list : (number : ℕ) → test number ≡ true → (font : Font) (offset : ℕ) (codes : List ℕ) → GoodSubs (list_given number font offset codes)
  unfolding list_given
  given-list number h font offset codes = list-good number h font offset codes (outcome font.tfm codes true true)

  disc-good : (pre post whole : Result (List Sub) ParFault) → GoodSubs pre → GoodSubs post → GoodSubs whole → Good (disc_end pre post whole)
  disc-good (Err fault) post whole a b c = tt
  disc-good (Ok pre) (Err fault) whole a b c = tt
  disc-good (Ok pre) (Ok post) (Err fault) a b c = tt
  disc-good (Ok pre) (Ok post) (Ok whole) a b c = one-item _ (record { pre = a; post = b; whole = c })

  item-good : (sub : Sub) → PassesSub test sub → Passes test (item_of sub)
  item-good (sub_char font code) good = good
  item-good (sub_lig font code covers) good = good
  item-good (sub_kern width left) good = good

  empty-good : Passes test empty_disc
  empty-good = record { pre = All-nil (PassesSub test); post = All-nil (PassesSub test); whole = All-nil (PassesSub test) }

  break-good : (item : Item) (ends : Bool) → Passes test item → All (Passes test) (if ends then item ∷ empty_disc ∷ [] else item ∷ [])
  break-good item true good = two-items item empty_disc good empty-good
  break-good item false good = one-item item good

  items-good : (hyphen : ℤ) (subs : List Sub) → All (PassesSub test) subs → All (Passes test) (flat_map (with_break hyphen) subs)
  items-good hyphen [] all = All-nil (Passes test)
  items-good hyphen (sub ∷ subs) all =
      All-append (Passes test) (with_break hyphen sub) (flat_map (with_break hyphen) subs)
      (break-good (item_of sub) (ends_in_hyphen hyphen sub) (item-good sub (All-head (PassesSub test) sub subs all)))
      (items-good hyphen subs (All-tail (PassesSub test) sub subs all))

  run-good : (number : ℕ) → test number ≡ true → (font : Font) (parts : List PartAt) (end : Result (List Glyph) LigFault)
      → Good (run_end number font parts end)
  unfolding run_items
  run-good number h font parts (Ok glyphs) =
      items-good font.codes.hyphen _ (subs-good number h font.size (run_codes parts) None glyphs)
  run-good number h font parts (Err fault) = tt

  given-run : (number : ℕ) → test number ≡ true → (font : Font) (parts : List PartAt) → Good (run_given number font parts)
  given-run number h font parts = run-good number h font parts (outcome font.tfm (run_codes parts) true true)

  given-disc : (number : ℕ) → test number ≡ true → (font : Font) (offset : ℕ) (lists : ThreeLists ℕ) → Good (disc_given number font offset lists)
  given-disc number h font offset lists =
      disc-good (list_given number font offset lists.pre) (list_given number font offset lists.post) (list_given number font offset lists.whole)
      (given-list number h font offset lists.pre) (given-list number h font offset lists.post) (given-list number h font offset lists.whole)

  hyphen-good : (number : ℕ) → test number ≡ true → (code : Option ℕ) → All (PassesSub test) (hyphen_sub number code)
  hyphen-good number h None = All-nil (PassesSub test)
  hyphen-good number h (Some code) = All-cons (PassesSub test) (sub_char number code) [] h (All-nil (PassesSub test))

  given-hyphen : (number : ℕ) → test number ≡ true → (font : Font) → Good (Ok (hyphen_disc number font ∷ []))
  given-hyphen number h font =
      one-item (hyphen_disc number font)
      (record { pre = hyphen-good number h (hyphen_of font.tfm font.codes.hyphen); post = All-nil (PassesSub test); whole = All-nil (PassesSub test) })

  -- ---- what stands in the current font

  abbrev Gives : Type 0
  Gives = ℕ → Font → Result (List Item) ParFault

  in-some : (stock : List Font) (current : Current) (give : Gives) (found : Option Font) → ((font : Font) → Good (give current.font font))
      → Good (elim found as (λ _. Result (List Item) ParFault) [ None ↦ Ok [] | Some font ↦ give current.font font ])
  in-some stock current give None good = All-nil (Passes test)
  in-some stock current give (Some font) good = good font

  in-found : (stock : List Font) (params : Params) (number : ℕ) (give : Gives) (found : Option Font) → ((font : Font) → Good (give number font))
      → Good (in_font stock (option_map (λ (font : Font). record { font = number; normal = normal_space params font; extra = extra_space font }) found) give)
  in-found stock params number give None good = All-nil (Passes test)
  in-found stock params number give (Some font) good =
      in-some stock (record { font = number; normal = normal_space params font; extra = extra_space font }) give (slice_get stock number) good

  in-font-good : (params : Params) (stock : List Font) (font : Option ℕ) (give : Gives)
      → ((number : ℕ) → font ≡ Some number → (f : Font) → Good (give number f))
      → Good (in_font stock (option_and_then (current_in params stock) font) give)
  in-font-good params stock None give good = All-nil (Passes test)
  in-font-good params stock (Some number) give good = in-found stock params number give (slice_get stock number) (good number refl)

  -- ---- parts

  space-good : (params : Params) (current : Option Current) (factor : ℕ) → Good (space_in params current factor)
  space-good params None factor = All-nil (Passes test)
  space-good params (Some current) factor = one-item _ tt

  normal-good : (current : Option Current) → Good (normal_in current)
  normal-good None = All-nil (Passes test)
  normal-good (Some current) = one-item _ tt

  tie-good : (current : Option Current) → Good (tie_in current)
  tie-good None = All-nil (Passes test)
  tie-good (Some current) = two-items (item_penalty (pos 10000)) (item_glue current.normal) tt tt

  -- the font in which a part stands, if any, passes
  abbrev Stands : Option ℕ → Type 0
  Stands font = All (λ n. test n ≡ true) (option_to_list font)

  own-font : (font : Option ℕ) → Stands font → (number : ℕ) → font ≡ Some number → test number ≡ true
  own-font None all number is = absurd (cc)
  own-font (Some n) all number is =
      let here : test n ≡ true = All-head (λ k. test k ≡ true) n [] all in
      let same : n ≡ number = cc in
      subst (λ (k : ℕ). test k ≡ true) same here

  single-good : (params : Params) (stock : List Font) (font : Option ℕ) (factor offset : ℕ) (part : Part) → Stands (stands_in font part)
      → Good (single params stock (option_and_then (current_in params stock) font) factor offset part)
  unfolding single
  single-good params stock font factor offset (Char code) all = All-nil (Passes test)
  single-good params stock font factor offset Space all = space-good params (option_and_then (current_in params stock) font) factor
  single-good params stock font factor offset Normal all = normal-good (option_and_then (current_in params stock) font)
  single-good params stock font factor offset Tie all = tie-good (option_and_then (current_in params stock) font)
  single-good params stock font factor offset (Kern width) all = one-item _ tt
  single-good params stock font factor offset (Skip glue) all = one-item _ tt
  single-good params stock font factor offset (Penalty value) all = one-item _ tt
  single-good params stock font factor offset Hyphen all =
      in-font-good params stock font _ (λ number is f. given-hyphen number (own-font font all number is) f)
  single-good params stock font factor offset (Disc lists) all =
      in-font-good params stock font _ (λ number is f. given-disc number (own-font font all number is) f offset lists)
  single-good params stock font factor offset (font_part number) all = All-nil (Passes test)

  run-first : (params : Params) (stock : List Font) (font : Option ℕ) (part : Part) (parts : List PartAt) (mid : Bool)
      (alone : Result (List Item) ParFault) → Stands (stands_in font part) → Good alone
      → Good (given_at part mid (run_in stock (option_and_then (current_in params stock) font) parts) alone)
  run-first params stock font (Char code) parts true alone all good = All-nil (Passes test)
  run-first params stock font (Char code) parts false alone all good =
      in-font-good params stock font _ (λ number is f. given-run number (own-font font all number is) f parts)
  run-first params stock font _ parts mid alone all good = good

  given-good : (params : Params) (tables : Tables) (stock : List Font) (before : List PartAt) (one : PartAt) (after : List PartAt)
      → Stands (stands_in (font_before before) one.part) → Good (given params tables stock before one after)
  unfolding given
  given-good params tables stock before one after all =
      run-first params stock (font_before before) one.part (one ∷ after) (goes_on before) _ all
      (single-good params stock (font_before before) (factor_before tables before) one.offset one.part all)

  behind-good : (items : List Item) (given : Result (List Item) ParFault) → All (Passes test) items → Good given → Good (behind items given)
  behind-good items (Ok more) a b = All-append (Passes test) items more a b
  behind-good items (Err fault) a b = tt

  joined-good : (a b : Result (List Item) ParFault) → Good a → Good b → Good (joined a b)
  joined-good (Ok items) b good more = behind-good items b good more
  joined-good (Err fault) b good more = tt

  stands-first : (a : Option ℕ) (rest : List ℕ) → All (λ n. test n ≡ true) (option_to_list a ++ rest)
      → Stands a × All (λ n. test n ≡ true) rest
  stands-first None rest all = (All-nil (λ n. test n ≡ true), all)
  stands-first (Some n) rest all = (
    All-cons (λ k. test k ≡ true) n [] (All-head (λ k. test k ≡ true) n rest all) (All-nil (λ k. test k ≡ true)),
    All-tail (λ k. test k ≡ true) n rest all,
  )

  all-good : (params : Params) (tables : Tables) (stock : List Font) (before parts : List PartAt)
      → All (λ n. test n ≡ true) (standing (font_before before) parts) → Good (given_behind params tables stock before parts)
  unfolding given_behind standing
  all-good params tables stock before [] all = All-nil (Passes test)
  all-good params tables stock before (one ∷ after) all =
      let parts = stands-first (stands_in (font_before before) one.part) (standing (font_after (font_before before) one.part) after) all in
      let next : All (λ n. test n ≡ true) (standing (font_before (before ++ one ∷ [])) after)
      = subst (λ (font : Option ℕ). All (λ n. test n ≡ true) (standing font after)) (sym (font-push before one)) parts.1 in
      joined-good (given params tables stock before one after) _ (given-good params tables stock before one after parts.0)
      (all-good params tables stock (before ++ one ∷ []) after next)

  -- ---- the whole list

  abbrev GoodList : Result HList ParFault → Type 0
  GoodList (Ok list) = All (Passes test) list.items
  GoodList (Err fault) = ⊤

  indent-good : (indent : Bool) (width : ℤ) → All (Passes test) (indent_items indent width)
  indent-good true width = one-item _ tt
  indent-good false width = All-nil (Passes test)

  shorter-good : (items : List Item) (ends : Bool) → All (Passes test) items
      → All (Passes test) (if ends then take (length items - 1) items else items)
  shorter-good items true all = All-take (Passes test) (length items - 1) items all
  shorter-good items false all = all

  ended-good : (parfillskip : Glue) (items : List Item) → All (Passes test) items → All (Passes test) (ended parfillskip items)
  unfolding ended
  ended-good parfillskip items all =
      All-append (Passes test) (without_last_glue items) _ (shorter-good items _ all)
      (two-items (item_penalty (pos 10000)) (item_glue parfillskip) tt tt)

  counted-good : (items : List Item) (many : Bool) → All (Passes test) items
      → GoodList (if many then Err TooManyItems else Ok (record { items = items }))
  counted-good items true all = tt
  counted-good items false all = all

  finished-good : (parfillskip : Glue) (given : Result (List Item) ParFault) → Good given → GoodList (finished parfillskip given)
  unfolding counted
  finished-good parfillskip (Ok items) good =
      counted-good (ended parfillskip items) (nat_lt most_items (item_count (ended parfillskip items))) (ended-good parfillskip items good)
  finished-good parfillskip (Err fault) good = tt

  mixed-good : (font : Option ℕ) (list : Result HList ParFault) → GoodList list → GoodList (by_mixed font list)
  mixed-good None list good = good
  mixed-good (Some font) list good = tt

  many-good : (many : Bool) (list : Result HList ParFault) → GoodList list → GoodList (if many then Err TooManyItems else list)
  many-good true list good = tt
  many-good false list good = good

  list-of-good : (par : Par) (tables : Tables) (stock : List Font) → All (λ n. test n ≡ true) (standing None par.parts)
      → GoodList (list_of par tables stock)
  unfolding list_of set_items
  list-of-good par tables stock all =
      many-good (nat_lt most_items (part_count par.parts)) _
      (mixed-good (mixed par.params stock par.parts) _
      (finished-good par.params.parfillskip _
      (behind-good (indent_items par.indent par.params.parindent) _ (indent-good par.indent par.params.parindent)
      (all-good par.params tables stock [] par.parts all))))

  pub list_names : (par : Par) (tables : Tables) (stock : List Font) (list : HList) → All (λ n. test n ≡ true) (standing None par.parts)
      → list_of par tables stock ≡ Ok list → All (Passes test) list.items
  list_names par tables stock list all is = subst GoodList is (list-of-good par tables stock all)

-- ---- the fonts in which parts stand expand alike

own-expands : (stock : List Font) (n : ℕ) (found : Option Font) → slice_get stock n ≡ found
    → expand_of stock n ≡ option_map (λ one. one.expand) (expanding_of stock n)
own-expands stock n None is = rw is refl
own-expands stock n (Some font) is = rw is (by font.expand)
  where
    by : (own : Option Expand) → own ≡ option_map (λ (one : Expanding). one.expand) (option_map (λ (e : Expand). record { font = n; expand = e }) own)
    by None = refl
    by (Some e) = refl

fits-own : (stock : List Font) (model : Option Expand) (n : ℕ) (own : Option Expanding) → expanding_of stock n ≡ own
    → fits model (option_map (λ one. one.expand) own) ≡ true → fits_in stock model n ≡ true
fits-own stock model n own is h =
    ap (fits model) (own-expands stock n (slice_get stock n) refl ∙ ap (option_map (λ (one : Expanding). one.expand)) is) ∙ h

expanding-more : (stock : List Font) (n : ℕ) (rest : List ℕ) (own : Option Expanding) → expanding_of stock n ≡ own
    → expanding stock (n ∷ rest) ≡ option_to_list own ++ expanding stock rest
expanding-more stock n rest None is = rw is refl
expanding-more stock n rest (Some one) is = rw is refl

next-fits : (stock : List Font) (f : Expand) (n : ℕ) (numbers : List ℕ) (own : Option Expanding) → expanding_of stock n ≡ own
    → (find (λ (other : Expanding). not (expand_alike f other.expand)) (expanding stock numbers) ≡ None → All (λ k. fits_in stock (Some f) k ≡ true) numbers)
    → find (λ (other : Expanding). not (expand_alike f other.expand)) (option_to_list own ++ expanding stock numbers) ≡ None
    → All (λ k. fits_in stock (Some f) k ≡ true) (n ∷ numbers)
next-fits stock f n numbers None is rest none =
    All-cons (λ k. fits_in stock (Some f) k ≡ true) n numbers (fits-own stock (Some f) n None is refl) (rest none)
next-fits stock f n numbers (Some one) is rest none = by (expand_alike f one.expand) refl none
  where
    by : (alike : Bool) → expand_alike f one.expand ≡ alike
        → (if not alike then Some one else find (λ (other : Expanding). not (expand_alike f other.expand)) (expanding stock numbers)) ≡ None
        → All (λ k. fits_in stock (Some f) k ≡ true) (n ∷ numbers)
    by true same none =
        All-cons (λ k. fits_in stock (Some f) k ≡ true) n numbers (fits-own stock (Some f) n (Some one) is same) (rest none)
    by false same none = absurd (cc)

others-fit : (stock : List Font) (f : Expand) (numbers : List ℕ)
    → find (λ (other : Expanding). not (expand_alike f other.expand)) (expanding stock numbers) ≡ None
    → All (λ n. fits_in stock (Some f) n ≡ true) numbers
others-fit stock f [] none = All-nil (λ n. fits_in stock (Some f) n ≡ true)
others-fit stock f (n ∷ numbers) none =
    next-fits stock f n numbers (expanding_of stock n) refl (others-fit stock f numbers)
    (subst (λ (es : List Expanding). find (λ (other : Expanding). not (expand_alike f other.expand)) es ≡ None) (expanding-more stock n numbers (expanding_of stock n) refl) none)

no-value : {X Y : Type 0} (f : X → Y) (o : Option X) → option_map f o ≡ None → o ≡ None
no-value f None none = refl
no-value f (Some x) none = absurd (cc)

alike-self : (f : Expand) → expand_alike f f ≡ true
alike-self f = grind arith

abbrev Model : List Font → List ℕ → Type 0
Model stock numbers = (model : Option Expand) × All (λ n. fits_in stock model n ≡ true) numbers

next-first : (stock : List Font) (n : ℕ) (numbers : List ℕ) (own : Option Expanding) → expanding_of stock n ≡ own
    → (first_other (expanding stock numbers) ≡ None → Model stock numbers)
    → first_other (option_to_list own ++ expanding stock numbers) ≡ None → Model stock (n ∷ numbers)
unfolding first_other other_than
next-first stock n numbers None is more none =
    let rest = more none in
    (rest.0, All-cons (λ k. fits_in stock rest.0 k ≡ true) n numbers (fits-own stock rest.0 n None is refl) rest.1)
next-first stock n numbers (Some one) is more none = (
  Some one.expand,
  All-cons (λ k. fits_in stock (Some one.expand) k ≡ true) n numbers
      (fits-own stock (Some one.expand) n (Some one) is (alike-self one.expand))
      (others-fit stock one.expand numbers
      (no-value (λ (other : Expanding). other.font) (find (λ (other : Expanding). not (expand_alike one.expand other.expand)) (expanding stock numbers)) none)),
)

first-fits : (stock : List Font) (numbers : List ℕ) → first_other (expanding stock numbers) ≡ None → Model stock numbers
first-fits stock [] none = (None, All-nil (λ n. fits_in stock None n ≡ true))
first-fits stock (n ∷ numbers) none =
    next-first stock n numbers (expanding_of stock n) refl (first-fits stock numbers)
    (subst (λ (es : List Expanding). first_other es ≡ None) (expanding-more stock n numbers (expanding_of stock n) refl) none)

not-mixed : (many : Bool) (font : Option ℕ) (rest : Result HList ParFault) (list : HList)
    → (if many then Err TooManyItems else by_mixed font rest) ≡ Ok list → font ≡ None
not-mixed true font rest list is = absurd (cc)
not-mixed false None rest list is = refl
not-mixed false (Some font) rest list is = absurd (cc)

none-other : (level : ℤ) (found : Option ℕ) → pos 0 <ℤ level → (if int_lt (pos 0) level then found else None) ≡ None → found ≡ None
none-other level found above none = by (int_lt (pos 0) level) refl none
  where
    by : (counts : Bool) → int_lt (pos 0) level ≡ counts → (if counts then found else None) ≡ None → found ≡ None
    by true same none = none
    by false same none = absurd (grind (arith, ints))

alike-first : (par : Par) (tables : Tables) (stock : List Font) (list : HList) → list_of par tables stock ≡ Ok list
    → pos 0 <ℤ par.params.pdfadjustspacing → first_other (expanding stock (standing None par.parts)) ≡ None
unfolding list_of mixed
alike-first par tables stock list is level =
    none-other par.params.pdfadjustspacing (first_other (expanding stock (standing None par.parts))) level
    (not-mixed (nat_lt most_items (part_count par.parts)) (mixed par.params stock par.parts)
    (finished par.params.parfillskip (set_items par tables stock)) list is)

pub paragraph_shares : (par : Par) (tables : Tables) (stock : List Font) (list : HList) → list_of par tables stock ≡ Ok list
    → Share par.params stock list.items
paragraph_shares par tables stock list is = λ level.
    let model = first-fits stock (standing None par.parts) (alike-first par tables stock list is level) in
    share_from_fonts par.params stock model.0 list.items
    (list_names (fits_in stock model.0) par tables stock list model.1 is) level

-- the list that building answers
pub built_shares : (par : Par) (tables : Tables) (stock : List Font) (list : HList)
    → (Ok list ≡ list_of par tables stock) ⊎ (Ok list ≡ Err NoMemory) → Share par.params stock list.items
built_shares par tables stock list (inl is) = paragraph_shares par tables stock list (sym is)
built_shares par tables stock list (inr is) = absurd (cc)
