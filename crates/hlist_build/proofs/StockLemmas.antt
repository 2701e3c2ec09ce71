-- The fonts, codes and kerns of what parts give are those of the stock.
--
--     Own stock number font    the stock has this font at this number
--     Good stock given         the items that are given, if any, are of the stock
use Rattle.std.proofs.Common.{◌≡◌, ℕ, ◌+◌, ◌-◌, ◌<◌, ◌≤◌, ℤ, pos, negsuc, Bool, true, false, ◌⊎◌, inl, inr, List, [], ◌∷◌, ◌++◌, length, take, All, refl, ap, sym, ◌∙◌, arith}
use Rattle.std.proofs.lemmas.Bool.Decides.{nat_tests}
use Rattle.std.specs.Prelude.{⊤, Option, Some, None, Result, Ok, Err, IfOk, slice_get, flat_map, nat_lt, ◌&&◌, if◌then◌else◌}
use Rattle.std.proofs.lemmas.List.Elements.{All-nil, All-cons, All-head, All-tail, All-append, All-take}
use Rattle.font_stock.specs.Fonts.{hyphen_of}
use Rattle.font_stock.specs.declared.font.Font.{Font}
use Rattle.tfm_read.specs.Ranges.{exists_at}
use Rattle.lig_kern.specs.Outcome.{outcome}
use Rattle.lig_kern.specs.Running.{Answers}
use Rattle.lig_kern.specs.declared.fault.LigFault.{LigFault}
use Rattle.lig_kern.specs.declared.glyph.Glyph.{Glyph}
use Rattle.lig_kern.proofs.OutcomeLemmas.{outcome-answers}
use Rattle.micro_num.specs.declared.disc.ThreeLists.{ThreeLists}
use Rattle.micro_num.specs.declared.glue.Glue.{Glue}
use Rattle.micro_num.specs.declared.paragraph.Par.{Par}
use Rattle.micro_num.specs.declared.paragraph.PartAt.{PartAt}
use Rattle.micro_num.specs.declared.params.Params.{Params}
use Rattle.micro_num.specs.declared.part.Part.{Part}
use Rattle.micro_num.specs.declared.part.Part.TheVariants.{Char, Space, Normal, Tie, Kern, Skip, Penalty, Hyphen, Disc, Font as font_part}
use Rattle.micro_num.specs.declared.tables.Tables.{Tables}
use Rattle.hlist.specs.Bounds.{IsSubOf, IsItemOf, IsListOf, IsSmall}
use Rattle.hlist.specs.Counts.{item_count}
use Rattle.hlist.specs.declared.item.HList.{HList}
use Rattle.hlist.specs.declared.item.Item.{Item}
use Rattle.hlist.specs.declared.item.Item.TheVariants.{Glue as item_glue, Penalty as item_penalty}
use Rattle.hlist.specs.declared.item.Sub.{Sub}
use Rattle.hlist.specs.declared.item.Sub.TheVariants.{Char as sub_char, Lig as sub_lig, FontKern as sub_kern}
use Rattle.hlist_build.specs.Counts.{part_count}
use Rattle.hlist_build.specs.Given.{behind, joined, space_in, normal_in, tie_in, single, given_at, given, given_behind}
use Rattle.hlist_build.specs.Mixing.{mixed}
use Rattle.hlist_build.specs.Paragraph.{indent_items, without_last_glue, ended, most_items, counted, finished, by_mixed, set_items, list_of}
use Rattle.hlist_build.specs.Parts.{run_codes, goes_on, factor_before}
use Rattle.hlist_runs.proofs.LawfulLemmas.{glyphs-lawful}
use Rattle.hlist_build.specs.Runs.{item_of, ends_in_hyphen, empty_disc, with_break, run_items, run_end, run_given, list_end, list_given, disc_end, disc_given, hyphen_sub, hyphen_disc, in_font, run_in, disc_in, hyphen_in}
use Rattle.hlist_build.specs.Spaces.{current_before}
use Rattle.hlist_build.specs.declared.current.Current.{Current}
use Rattle.hlist_build.specs.declared.fault.ParFault.{ParFault}
use Rattle.hlist_build.specs.declared.fault.ParFault.TheVariants.{TooManyItems, MixedExpansion, NoMemory}

abbrev pub Good : List Font → Result (List Item) ParFault → Type 0
Good stock (Ok items) = All (IsItemOf stock) items
Good stock (Err fault) = ⊤

abbrev GoodSubs : List Font → Result (List Sub) ParFault → Type 0
GoodSubs stock (Ok subs) = All (IsSubOf stock) subs
GoodSubs stock (Err fault) = ⊤

one-item : (stock : List Font) (item : Item) → IsItemOf stock item → Good stock (Ok (item ∷ []))
one-item stock item good = All-cons (IsItemOf stock) item [] good (All-nil (IsItemOf stock))

two-items : (stock : List Font) (a b : Item) → IsItemOf stock a → IsItemOf stock b → All (IsItemOf stock) (a ∷ b ∷ [])
two-items stock a b good more = All-cons (IsItemOf stock) a (b ∷ []) good (one-item stock b more)

module _ (stock : List Font) (number : ℕ) (font : Font) (is : slice_get stock number ≡ Some font) where
  -- ---- runs and discretionaries

  list-good : (offset : ℕ) (codes : List ℕ) (end : Result (List Glyph) LigFault) → Answers font.tfm codes true true end
      → GoodSubs stock (list_end number font offset codes end)
  list-good offset codes (Ok glyphs) answer =
      (glyphs-lawful stock number font codes true true glyphs is answer).own
  list-good offset codes (Err fault) answer = tt

  given-list : (offset : ℕ) (codes : List ℕ) → GoodSubs stock (list_given number font offset codes)
  unfolding list_given
  given-list offset codes = list-good offset codes (outcome font.tfm codes true true) (outcome-answers font.tfm codes true true)

  disc-good : (pre post whole : Result (List Sub) ParFault) → GoodSubs stock pre → GoodSubs stock post → GoodSubs stock whole
      → Good stock (disc_end pre post whole)
  disc-good (Err fault) post whole a b c = tt
  disc-good (Ok pre) (Err fault) whole a b c = tt
  disc-good (Ok pre) (Ok post) (Err fault) a b c = tt
  disc-good (Ok pre) (Ok post) (Ok whole) a b c = one-item stock _ (record { pre = a; post = b; whole = c })

  item-good : (sub : Sub) → IsSubOf stock sub → IsItemOf stock (item_of sub)
  item-good (sub_char font code) good = good
  item-good (sub_lig font code covers) good = good
  item-good (sub_kern width left) good = good

  empty-good : IsItemOf stock empty_disc
  empty-good = record { pre = All-nil (IsSubOf stock); post = All-nil (IsSubOf stock); whole = All-nil (IsSubOf stock) }

  break-good : (item : Item) (ends : Bool) → IsItemOf stock item
      → All (IsItemOf stock) (if ends then item ∷ empty_disc ∷ [] else item ∷ [])
  break-good item true good = All-cons (IsItemOf stock) item (empty_disc ∷ []) good (one-item stock empty_disc empty-good)
  break-good item false good = one-item stock item good

  items-good : (hyphen : ℤ) (subs : List Sub) → All (IsSubOf stock) subs → All (IsItemOf stock) (flat_map (with_break hyphen) subs)
  items-good hyphen [] all = All-nil (IsItemOf stock)
  items-good hyphen (sub ∷ subs) all =
      All-append (IsItemOf stock) (with_break hyphen sub) (flat_map (with_break hyphen) subs)
      (break-good (item_of sub) (ends_in_hyphen hyphen sub) (item-good sub (All-head (IsSubOf stock) sub subs all)))
      (items-good hyphen subs (All-tail (IsSubOf stock) sub subs all))

  run-good : (parts : List PartAt) (end : Result (List Glyph) LigFault) → Answers font.tfm (run_codes parts) true true end
      → Good stock (run_end number font parts end)
  unfolding run_items
  run-good parts (Ok glyphs) answer =
      items-good font.codes.hyphen _ (glyphs-lawful stock number font (run_codes parts) true true glyphs is answer).own
  run-good parts (Err fault) answer = tt

  given-run : (parts : List PartAt) → Good stock (run_given number font parts)
  given-run parts =
      run-good parts (outcome font.tfm (run_codes parts) true true) (outcome-answers font.tfm (run_codes parts) true true)

  given-disc : (offset : ℕ) (lists : ThreeLists ℕ) → Good stock (disc_given number font offset lists)
  given-disc offset lists =
      disc-good (list_given number font offset lists.pre) (list_given number font offset lists.post) (list_given number font offset lists.whole)
      (given-list offset lists.pre) (given-list offset lists.post) (given-list offset lists.whole)

  -- the hyphen character, where the font has it
  some-hyphen : (code : ℕ) (small there : Bool) → exists_at font.tfm.chars code ≡ there
      → All (IsSubOf stock) (hyphen_sub number (if small && there then Some code else None))
  some-hyphen code true true e =
      All-cons (IsSubOf stock) (sub_char number code) [] (record { font = font; is = is; holds = e }) (All-nil (IsSubOf stock))
  some-hyphen code true false e = All-nil (IsSubOf stock)
  some-hyphen code false there e = All-nil (IsSubOf stock)

  hyphen-good : (hyphen : ℤ) → All (IsSubOf stock) (hyphen_sub number (hyphen_of font.tfm hyphen))
  hyphen-good (pos code) = some-hyphen code (nat_lt code 256) (exists_at font.tfm.chars code) refl
  hyphen-good (negsuc n) = All-nil (IsSubOf stock)

  given-hyphen : Good stock (Ok (hyphen_disc number font ∷ []))
  given-hyphen =
      one-item stock (hyphen_disc number font)
      (record { pre = hyphen-good font.codes.hyphen; post = All-nil (IsSubOf stock); whole = All-nil (IsSubOf stock) })

-- ---- what stands in a font

abbrev Gives : Type 0
Gives = ℕ → Font → Result (List Item) ParFault

in-good : (stock : List Font) (current : Current) (give : Gives) (found : Option Font) → slice_get stock current.font ≡ found
    → ((font : Font) → slice_get stock current.font ≡ Some font → Good stock (give current.font font))
    → Good stock (elim found as (λ _. Result (List Item) ParFault) [ None ↦ Ok [] | Some font ↦ give current.font font ])
in-good stock current give None is good = All-nil (IsItemOf stock)
in-good stock current give (Some font) is good = good font is

in_font-good : (stock : List Font) (current : Option Current) (give : Gives)
    → ((number : ℕ) (font : Font) → slice_get stock number ≡ Some font → Good stock (give number font)) → Good stock (in_font stock current give)
in_font-good stock None give good = All-nil (IsItemOf stock)
in_font-good stock (Some current) give good =
    in-good stock current give (slice_get stock current.font) refl (λ font is. good current.font font is)

-- ---- parts

space-good : (params : Params) (stock : List Font) (current : Option Current) (factor : ℕ) → Good stock (space_in params current factor)
space-good params stock None factor = All-nil (IsItemOf stock)
space-good params stock (Some current) factor = one-item stock _ tt

normal-good : (stock : List Font) (current : Option Current) → Good stock (normal_in current)
normal-good stock None = All-nil (IsItemOf stock)
normal-good stock (Some current) = one-item stock _ tt

tie-good : (stock : List Font) (current : Option Current) → Good stock (tie_in current)
tie-good stock None = All-nil (IsItemOf stock)
tie-good stock (Some current) = two-items stock (item_penalty (pos 10000)) (item_glue current.normal) tt tt

single-good : (params : Params) (stock : List Font) (current : Option Current) (factor offset : ℕ) (part : Part)
    → Good stock (single params stock current factor offset part)
unfolding single
single-good params stock current factor offset (Char code) = All-nil (IsItemOf stock)
single-good params stock current factor offset Space = space-good params stock current factor
single-good params stock current factor offset Normal = normal-good stock current
single-good params stock current factor offset Tie = tie-good stock current
single-good params stock current factor offset (Kern width) = one-item stock _ tt
single-good params stock current factor offset (Skip glue) = one-item stock _ tt
single-good params stock current factor offset (Penalty value) = one-item stock _ tt
single-good params stock current factor offset Hyphen =
    in_font-good stock current _ (λ number font is. given-hyphen stock number font is)
single-good params stock current factor offset (Disc lists) =
    in_font-good stock current _ (λ number font is. given-disc stock number font is offset lists)
single-good params stock current factor offset (font_part number) = All-nil (IsItemOf stock)

given_at-good : (stock : List Font) (part : Part) (mid : Bool) (run alone : Result (List Item) ParFault) → Good stock run → Good stock alone
    → Good stock (given_at part mid run alone)
given_at-good stock (Char code) true run alone a b = All-nil (IsItemOf stock)
given_at-good stock (Char code) false run alone a b = a
given_at-good stock _ mid run alone a b = b

given-good : (params : Params) (tables : Tables) (stock : List Font) (before : List PartAt) (one : PartAt) (after : List PartAt)
    → Good stock (given params tables stock before one after)
unfolding given
given-good params tables stock before one after =
    let current = current_before params stock before in
    given_at-good stock one.part (goes_on before) (run_in stock current (one ∷ after))
    (single params stock current (factor_before tables before) one.offset one.part)
    (in_font-good stock current _ (λ number font is. given-run stock number font is (one ∷ after)))
    (single-good params stock current (factor_before tables before) one.offset one.part)

behind-good : (stock : List Font) (items : List Item) (given : Result (List Item) ParFault) → All (IsItemOf stock) items → Good stock given
    → Good stock (behind items given)
behind-good stock items (Ok more) a b = All-append (IsItemOf stock) items more a b
behind-good stock items (Err fault) a b = tt

joined-good : (stock : List Font) (a b : Result (List Item) ParFault) → Good stock a → Good stock b → Good stock (joined a b)
joined-good stock (Ok items) b good more = behind-good stock items b good more
joined-good stock (Err fault) b good more = tt

all-good : (params : Params) (tables : Tables) (stock : List Font) (before parts : List PartAt)
    → Good stock (given_behind params tables stock before parts)
unfolding given_behind
all-good params tables stock before [] = All-nil (IsItemOf stock)
all-good params tables stock before (one ∷ after) =
    joined-good stock (given params tables stock before one after) _ (given-good params tables stock before one after)
    (all-good params tables stock (before ++ one ∷ []) after)

-- ---- the whole list

abbrev pub GoodList : List Font → Result HList ParFault → Type 0
GoodList stock (Ok list) = IsListOf stock list × IsSmall list
GoodList stock (Err fault) = ⊤

indent-good : (stock : List Font) (indent : Bool) (width : ℤ) → All (IsItemOf stock) (indent_items indent width)
indent-good stock true width = one-item stock _ tt
indent-good stock false width = All-nil (IsItemOf stock)

shorter-good : (stock : List Font) (items : List Item) (ends : Bool) → All (IsItemOf stock) items
    → All (IsItemOf stock) (if ends then take (length items - 1) items else items)
shorter-good stock items true all = All-take (IsItemOf stock) (length items - 1) items all
shorter-good stock items false all = all

ended-good : (stock : List Font) (parfillskip : Glue) (items : List Item) → All (IsItemOf stock) items → All (IsItemOf stock) (ended parfillskip items)
unfolding ended
ended-good stock parfillskip items all =
    All-append (IsItemOf stock) (without_last_glue items) _ (shorter-good stock items _ all)
    (two-items stock (item_penalty (pos 10000)) (item_glue parfillskip) tt tt)

counted-good : (stock : List Font) (items : List Item) (many : Bool) → nat_lt most_items (item_count items) ≡ many
    → All (IsItemOf stock) items
    → GoodList stock (if many then Err TooManyItems else Ok (record { items = items }))
counted-good stock items true is all = tt
counted-good stock items false is all = (all, few)
  where
    few : item_count items ≤ 16384
    few = grind (arith, nat_tests)

finished-good : (stock : List Font) (parfillskip : Glue) (given : Result (List Item) ParFault) → Good stock given
    → GoodList stock (finished parfillskip given)
unfolding counted
finished-good stock parfillskip (Ok items) good =
    counted-good stock (ended parfillskip items) (nat_lt most_items (item_count (ended parfillskip items))) refl
    (ended-good stock parfillskip items good)
finished-good stock parfillskip (Err fault) good = tt

mixed-good : (stock : List Font) (font : Option ℕ) (list : Result HList ParFault) → GoodList stock list → GoodList stock (by_mixed font list)
mixed-good stock None list good = good
mixed-good stock (Some font) list good = tt

many-good : (stock : List Font) (many : Bool) (list : Result HList ParFault) → GoodList stock list
    → GoodList stock (if many then Err TooManyItems else list)
many-good stock true list good = tt
many-good stock false list good = good

pub list_of-good : (par : Par) (tables : Tables) (stock : List Font) → GoodList stock (list_of par tables stock)
unfolding list_of set_items
list_of-good par tables stock =
    many-good stock (nat_lt most_items (part_count par.parts)) _
    (mixed-good stock (mixed par.params stock par.parts) _
    (finished-good stock par.params.parfillskip _
    (behind-good stock (indent_items par.indent par.params.parindent) _ (indent-good stock par.indent par.params.parindent)
    (all-good par.params tables stock [] par.parts))))

-- a list that is the paragraph's
pub answer-good : (par : Par) (tables : Tables) (stock : List Font) (result : Result HList ParFault)
    → (result ≡ list_of par tables stock) ⊎ (result ≡ Err NoMemory) → GoodList stock result
answer-good par tables stock result (inl is) = rw is (list_of-good par tables stock)
answer-good par tables stock result (inr is) = rw is tt

pub only-small : (stock : List Font) (result : Result HList ParFault) → GoodList stock result → IfOk result IsSmall
only-small stock (Ok list) good = good.1
only-small stock (Err fault) good = tt

pub only-of-stock : (stock : List Font) (result : Result HList ParFault) → GoodList stock result → IfOk result (IsListOf stock)
only-of-stock stock (Ok list) good = good.0
only-of-stock stock (Err fault) good = tt
