-- What later steps rely on in a list: how long it may be, and that its fonts, codes and kerns exist.
use Rattle.std.specs.Prelude.{◌≡◌, ℕ, ◌+◌, ◌≤◌, ⊤, true, List, length, All, Contains, Option, Some, None, slice_get, sum_by}
use Rattle.font_stock.specs.declared.font.Font.{Font}
use Rattle.micro_num.specs.declared.disc.ThreeLists.{ThreeLists}
use Rattle.tfm_read.specs.Ranges.{exists_at}
use Rattle.hlist.specs.Counts.{item_count}
use Rattle.hlist.specs.declared.item.HList.{HList}
use Rattle.hlist.specs.declared.item.KernLeft.{KernLeft}
use Rattle.hlist.specs.declared.item.Item.{Item}
use Rattle.hlist.specs.declared.item.Item.TheVariants.{Char, Lig, FontKern, Kern, Glue, Penalty, Disc, Box}
use Rattle.hlist.specs.declared.item.Sub.{Sub}
use Rattle.hlist.specs.declared.item.Sub.TheVariants.{Char as sub_char, Lig as sub_lig, FontKern as sub_kern}

-- a list is small where it has at most 16,384 items, the entries of all lists of its discretionaries counted
abbrev pub IsSmall : HList → Type 0
IsSmall list = item_count list.items ≤ 16384

-- an item counts once, and each entry that stands at a discretionary without a break besides
abbrev pub unbroken_weight : Item → ℕ
unbroken_weight (Disc lists) = 1 + length lists.whole
unbroken_weight _ = 1

unfoldable pub unbroken_count : List Item → ℕ
unbroken_count items = sum_by unbroken_weight items

-- what stands before and after a break has at most 32,768 entries each
abbrev pub BreaksShort : Item → Type 0
BreaksShort (Disc lists) = (length lists.pre ≤ 32768) × (length lists.post ≤ 32768)
BreaksShort _ = ⊤

-- a list is in bounds where it has at most 65,536 items, as they stand without a break, and short breaks
pub record IsInBounds (list : HList) : Type 0 where
  pub few : unbroken_count list.items ≤ 65536
  pub short : All BreaksShort list.items

-- a font of the stock, and what holds of it
pub record OfFont (stock : List Font) (number : ℕ) (P : Font → Type 0) : Type 0 where
  pub font : Font
  pub is : slice_get stock number ≡ Some font
  pub holds : P font

abbrev pub HasChar : ℕ → Font → Type 0
HasChar code font = exists_at font.tfm.chars code ≡ true

-- a font has the character of a ligature and of each code that it stands for
pub record HasLig (code : ℕ) (covers : List ℕ) (font : Font) : Type 0 where
  pub own : HasChar code font
  pub covered : All (λ covered. HasChar covered font) covers

-- a font has the character that a kern expands with, and the kern among its kerns
pub record HasKern (left : KernLeft) (font : Font) : Type 0 where
  pub glyph : HasChar left.code font
  pub kern : Contains font.tfm.kerns left.fix

abbrev pub IsLeftOf : List Font → Option KernLeft → Type 0
IsLeftOf stock None = ⊤
IsLeftOf stock (Some left) = OfFont stock left.font (HasKern left)

abbrev pub IsSubOf : List Font → Sub → Type 0
IsSubOf stock (sub_char font code) = OfFont stock font (HasChar code)
IsSubOf stock (sub_lig font code covers) = OfFont stock font (HasLig code covers)
IsSubOf stock (sub_kern width left) = IsLeftOf stock left

pub record AreListsOf (stock : List Font) (lists : ThreeLists Sub) : Type 0 where
  pub pre : All (IsSubOf stock) lists.pre
  pub post : All (IsSubOf stock) lists.post
  pub whole : All (IsSubOf stock) lists.whole

-- the fonts, codes and kerns of an item are those of a stock
abbrev pub IsItemOf : List Font → Item → Type 0
IsItemOf stock (Char font code) = OfFont stock font (HasChar code)
IsItemOf stock (Lig font code covers) = OfFont stock font (HasLig code covers)
IsItemOf stock (FontKern width left) = IsLeftOf stock left
IsItemOf stock (Kern width) = ⊤
IsItemOf stock (Glue glue) = ⊤
IsItemOf stock (Penalty value) = ⊤
IsItemOf stock (Disc lists) = AreListsOf stock lists
IsItemOf stock (Box width) = ⊤

-- each font of a list is in the stock and has the list's codes and kerns of it
abbrev pub IsListOf : List Font → HList → Type 0
IsListOf stock list = All (IsItemOf stock) list.items
