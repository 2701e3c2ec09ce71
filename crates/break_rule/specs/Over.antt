-- What breaking asks of a list: that its fonts are in the stock, that its kerns are their fonts' own, and that its
-- expandable fonts share their limits and their step.
use Rattle.std.specs.Prelude.{◌≡◌, ◌<◌, ⊤, pos, ◌<ℤ◌, List, length, All, Contains, Option, Some, None}
use Rattle.micro_num.specs.declared.disc.ThreeLists.{ThreeLists}
use Rattle.micro_num.specs.declared.params.Params.{Params}
use Rattle.font_stock.specs.declared.expand.Expand.{Expand}
use Rattle.font_stock.specs.declared.font.Font.{Font}
use Rattle.hlist.specs.Bounds.{OfFont}
use Rattle.hlist.specs.declared.item.KernLeft.{KernLeft}
use Rattle.hlist.specs.declared.item.Item.{Item}
use Rattle.hlist.specs.declared.item.Item.TheVariants.{Char, Lig, FontKern, Disc}
use Rattle.hlist.specs.declared.item.Sub.{Sub}
use Rattle.hlist.specs.declared.item.Sub.TheVariants.{Char as sub_char, Lig as sub_lig, FontKern as sub_kern}
use Rattle.break_rule.specs.Fits.{expansions}

abbrev pub IsKernOver : List Font → Option KernLeft → Type 0
IsKernOver stock None = ⊤
IsKernOver stock (Some left) = OfFont stock left.font (λ (font : Font). Contains font.tfm.kerns left.fix)

abbrev pub IsSubOver : List Font → Sub → Type 0
IsSubOver stock (sub_char font code) = font < length stock
IsSubOver stock (sub_lig font code covers) = font < length stock
IsSubOver stock (sub_kern width left) = IsKernOver stock left

pub record AreListsOver (stock : List Font) (lists : ThreeLists Sub) : Type 0 where
  pub pre : All (IsSubOver stock) lists.pre
  pub post : All (IsSubOver stock) lists.post
  pub whole : All (IsSubOver stock) lists.whole

-- the fonts of an item are in the stock, and its kern is one of its font's
abbrev pub IsItemOver : List Font → Item → Type 0
IsItemOver stock (Char font code) = font < length stock
IsItemOver stock (Lig font code covers) = font < length stock
IsItemOver stock (FontKern width left) = IsKernOver stock left
IsItemOver stock (Disc lists) = AreListsOver stock lists
IsItemOver stock _ = ⊤

abbrev pub IsOver : List Font → List Item → Type 0
IsOver stock items = All (IsItemOver stock) items

pub record AreAlike (a b : Expand) : Type 0 where
  pub stretch : a.stretch ≡ b.stretch
  pub shrink : a.shrink ≡ b.shrink
  pub step : a.step ≡ b.step

-- where fonts may be expanded, all that can be share their limits and their step
abbrev pub Share : Params → List Font → List Item → Type 0
Share params stock items =
    pos 0 <ℤ params.pdfadjustspacing → (a b : Expand) → Contains (expansions stock items) a → Contains (expansions stock items) b → AreAlike a b
