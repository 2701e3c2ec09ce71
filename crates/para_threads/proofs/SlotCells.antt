-- The cells of the pages in slots are those that entries asked for.
--     flat-has, has-flat      a cell of lists put together is in one of them
--     pages-asked             entries that stand in slots, and fill them, have the cells of the pages there
use Rattle.std.proofs.Common.{◌≡◌, ℕ, zero, suc, ◌<◌, refl, ap, sym, ◌∙◌, subst, arith, Bool, true, false, ◌||◌, List, [], ◌∷◌, ◌++◌, append-nil, map, length, get_or, All, Contains, Some, None, Ok}
use Rattle.std.specs.Prelude.{filter, flat_map}
use Rattle.std.proofs.lemmas.List.{get_or_default}
use Rattle.std.proofs.lemmas.List.Elements.{All-nil, All-cons, All-contains, Contains-append_right, Contains-get_or}
use Rattle.std.proofs.lemmas.List.Folds.{list_any-append}
use Rattle.instance_core.specs.declared.cell.Cell.{Cell}
use Rattle.instance_core.specs.declared.font.BaseFont.{BaseFont}
use Rattle.instance_core.specs.declared.page.Page.{Page}
use Rattle.instance_core.specs.Cells.{cells_of, has_cell, in_cell_order, same_cell}
use Rattle.hpack_two.specs.Answers.{touched_with}
use Rattle.para_workers.specs.Touched.{cells_of_all, cells_of_page}
use Rattle.para_threads.specs.declared.done.DoneAt.{DoneAt}
use Rattle.para_threads.specs.Gathering.{AreGood, HasEntry, IsGood, cells_done, cells_if}
use Rattle.para_threads.specs.Slots.{IsFull, Slot, pages_in, slot_at}
use Rattle.para_threads.proofs.SlotPages.{slot_with, slots-are}

-- ---- cells of lists put together

record HasOne {X : Type 0} (f : X → List Cell) (xs : List X) (c : Cell) : Type 0 where
  one : X
  among : Contains xs one
  has : has_cell (f one) c ≡ true

or-true : (b : Bool) → (b || true) ≡ true
or-true true = refl
or-true false = refl

flat-has : {X : Type 0} (f : X → List Cell) (xs : List X) (c : Cell) → has_cell (flat_map f xs) c ≡ true → HasOne f xs c
flat-has f [] c has = absurd cc
flat-has f (x ∷ xs) c has = either (has_cell (f x) c) refl (λ rest. flat-has f xs c rest)
  where
    either : (b : Bool) → has_cell (f x) c ≡ b → (has_cell (flat_map f xs) c ≡ true → HasOne f xs c) → HasOne f (x ∷ xs) c
    either true known rest = record { one = x; among = (0, omega arith, refl); has = known }
    either false known rest =
        let later = rest (ap (λ b. b || has_cell (flat_map f xs) c) (sym known) ∙ sym (list_any-append (same_cell c) (f x) (flat_map f xs)) ∙ has) in
        record { one = later.one; among = Contains-append_right (x ∷ []) xs later.one later.among; has = later.has }

has-flat : {X : Type 0} (f : X → List Cell) (xs : List X) (x : X) (c : Cell) → Contains xs x → has_cell (f x) c ≡ true → has_cell (flat_map f xs) c ≡ true
has-flat f [] x c (k, inside, is) has = absurd (omega (arith, inside))
has-flat f (y ∷ ys) x c (zero, inside, is) has =
    list_any-append (same_cell c) (f y) (flat_map f ys) ∙ ap (λ b. b || has_cell (flat_map f ys) c) (ap (λ z. has_cell (f z) c) is ∙ has)
has-flat f (y ∷ ys) x c (suc k, inside, is) has =
    list_any-append (same_cell c) (f y) (flat_map f ys)
    ∙ ap (λ b. has_cell (f y) c || b) (has-flat f ys x c (k, omega (arith, inside), is) has)
    ∙ or-true (has_cell (f y) c)

bools-same : (a b : Bool) → (a ≡ true → b ≡ true) → (b ≡ true → a ≡ true) → a ≡ b
bools-same true b there back = sym (there refl)
bools-same false true there back = back refl
bools-same false false there back = refl

-- ---- slots

abbrev cells_in : Slot → List Cell
cells_in None = []
cells_in (Some page) = cells_if page

abbrev IsGoodSlot : Slot → Type 0
IsGoodSlot None = ⊥
IsGoodSlot (Some page) = IsGood page

pages-cells : (pages : List Page) → cells_of_all pages ≡ flat_map cells_in (map slot_with pages)
unfolding cells_of_all
pages-cells [] = refl
pages-cells (page ∷ pages) = ap (λ cells. cells_of_page page ++ cells) (pages-cells pages)

good-slots : (pages : List Page) → All IsGoodSlot (map slot_with pages)
good-slots [] = All-nil IsGoodSlot
good-slots (page ∷ pages) = All-cons IsGoodSlot (slot_with page) (map slot_with pages) tt (good-slots pages)

module _ (slots : List Slot) (all : List DoneAt) (inside : All (λ (e : DoneAt). e.place < length slots) all)
    (stand : All (λ (e : DoneAt). slot_at slots e.place ≡ Some e.page) all) where
  among-slots : (e : DoneAt) → Contains all e → Contains slots (Some e.page)
  among-slots e among =
      let small : e.place < length slots = All-contains (λ (x : DoneAt). x.place < length slots) all e inside among in (
        e.place,
        small,
        get_or_default slots e.place (Some e.page) None small ∙ All-contains (λ (x : DoneAt). slot_at slots x.place ≡ Some x.page) all e stand among,
      )

  entries-good : All IsGoodSlot slots → AreGood all
  entries-good good k d small =
      All-contains IsGoodSlot slots (Some (get_or all k d).page) good (among-slots (get_or all k d) (Contains-get_or all k d small))

  entry-cell : (c : Cell) → has_cell (cells_done all) c ≡ true → has_cell (flat_map cells_in slots) c ≡ true
  unfolding cells_done
  entry-cell c has =
      let from = flat-has (λ (e : DoneAt). cells_if e.page) all c has in
      has-flat cells_in slots (Some from.one.page) c (among-slots from.one from.among) from.has

  slot-cell : ((place : ℕ) → place < length slots → HasEntry all place) → (c : Cell) → has_cell (flat_map cells_in slots) c ≡ true → has_cell (cells_done all) c ≡ true
  unfolding cells_done
  slot-cell entries c has =
      let from = flat-has cells_in slots c has in
      let place : ℕ = from.among.0 in
      let entry : HasEntry all place = entries place from.among.1 in
      let here : slot_at slots entry.one.place ≡ Some entry.one.page =
      All-contains (λ (x : DoneAt). slot_at slots x.place ≡ Some x.page) all entry.one stand entry.among in
      let same : from.one ≡ Some entry.one.page =
      sym from.among.2
      ∙ get_or_default slots place from.one None from.among.1
      ∙ ap (λ n. slot_at slots n) (sym entry.there)
      ∙ here in
      has-flat (λ (e : DoneAt). cells_if e.page) all entry.one c entry.among (ap (λ (s : Slot). has_cell (cells_in s) c) (sym same) ∙ from.has)

  pub pages-asked : (bases : List BaseFont) (pages : List Page) → ((place : ℕ) → place < length slots → HasEntry all place) → All IsFull slots → pages_in 1 slots ≡ Ok pages
      → AreGood all × (touched_with bases (cells_done all) [] ≡ touched_with bases (cells_of_all pages) [])
  pages-asked bases pages entries full is =
      let are : slots ≡ map slot_with pages = slots-are 1 slots pages full is in
      let cells : flat_map cells_in slots ≡ cells_of_all pages = ap (flat_map cells_in) are ∙ sym (pages-cells pages) in
      let same : (c : Cell) → has_cell (cells_done all) c ≡ has_cell (flat_map cells_in slots) c =
      λ c. bools-same (has_cell (cells_done all) c) (has_cell (flat_map cells_in slots) c) (entry-cell c) (slot-cell entries c) in (
        entries-good (subst (All IsGoodSlot) (sym are) (good-slots pages)),
        ap (in_cell_order bases) (append-nil (cells_done all))
            ∙ (λ i. filter (λ c. same c i) (cells_of bases))
            ∙ ap (in_cell_order bases) (cells ∙ sym (append-nil (cells_of_all pages))),
      )
