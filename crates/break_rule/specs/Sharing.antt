-- How far the first expandable font among those that an item names may be expanded, part by part (pdfTeX manual,
-- `\pdffontexpand`).
use Rattle.std.specs.Prelude.{List, fold, Option, Some, None}
use Rattle.std.specs.Option.{option_or}
use Rattle.micro_num.specs.declared.disc.ThreeLists.{ThreeLists}
use Rattle.font_stock.specs.declared.expand.Expand.{Expand}
use Rattle.font_stock.specs.declared.font.Font.{Font}
use Rattle.hlist.specs.declared.item.KernLeft.{KernLeft}
use Rattle.hlist.specs.declared.item.Item.{Item}
use Rattle.hlist.specs.declared.item.Item.TheVariants.{Char, Lig, FontKern, Disc}
use Rattle.hlist.specs.declared.item.Sub.{Sub}
use Rattle.hlist.specs.declared.item.Sub.TheVariants.{Char as sub_char, Lig as sub_lig, FontKern as sub_kern}
use Rattle.break_rule.specs.Fits.{expand_of}

abbrev pub first_in_left : List Font → Option KernLeft → Option Expand
first_in_left stock None = None
first_in_left stock (Some left) = expand_of stock left.font

abbrev pub first_in_sub : List Font → Sub → Option Expand
first_in_sub stock (sub_char font code) = expand_of stock font
first_in_sub stock (sub_lig font code covers) = expand_of stock font
first_in_sub stock (sub_kern width left) = first_in_left stock left

abbrev pub or_sub : List Font → Option Expand → Sub → Option Expand
or_sub stock found sub = option_or found (first_in_sub stock sub)

unfoldable pub first_in_subs : List Font → List Sub → Option Expand
first_in_subs stock subs = fold (or_sub stock) None subs

abbrev pub first_in_lists : List Font → ThreeLists Sub → Option Expand
first_in_lists stock lists =
    option_or (first_in_subs stock lists.pre) (option_or (first_in_subs stock lists.post) (first_in_subs stock lists.whole))

abbrev pub first_in_item : List Font → Item → Option Expand
first_in_item stock (Char font code) = expand_of stock font
first_in_item stock (Lig font code covers) = expand_of stock font
first_in_item stock (FontKern width left) = first_in_left stock left
first_in_item stock (Disc lists) = first_in_lists stock lists
first_in_item stock _ = None

abbrev pub or_item : List Font → Option Expand → Item → Option Expand
or_item stock found item = option_or found (first_in_item stock item)

unfoldable pub first_in : List Font → List Item → Option Expand
first_in stock items = fold (or_item stock) None items
