-- Where the search for the character at a margin ends, part by part (Thành, Micro-typographic extensions to the TeX
-- typesetting system).
--     item_margin             how far an item hangs out at a side where no line ends in it, None where the search passes it
--     subs_margin             how far the first entry of a discretionary's list that stops the search from a side does
use Rattle.std.specs.Prelude.{ℤ, pos, List, map, reverse, Option, Some, None, if◌then◌else◌}
use Rattle.std.specs.Ordering.{int_eq}
use Rattle.font_stock.specs.declared.font.Font.{Font}
use Rattle.hlist.specs.declared.item.Item.{Item}
use Rattle.hlist.specs.declared.item.Item.TheVariants.{Char, Lig, FontKern, Kern, Glue, Penalty, Disc, Box}
use Rattle.hlist.specs.declared.item.Sub.{Sub}
use Rattle.hlist.specs.declared.item.Sub.TheVariants.{Char as sub_char, Lig as sub_lig, FontKern as sub_kern}
use Rattle.break_rule.specs.declared.margin.Side.{Side}
use Rattle.break_rule.specs.declared.margin.Side.TheVariants.{Left, Right}
use Rattle.break_rule.specs.Lines.{margin, as_item, hang_of_glyph}

-- the list as the search from a side meets it
abbrev pub seen_from : {X : Type 0} → Side → List X → List X
seen_from Left list = list
seen_from Right list = reverse list

unfoldable pub subs_margin : Side → List Font → List Sub → Option ℤ
subs_margin side stock subs = margin side stock (seen_from side (map as_item subs))

abbrev pub width_margin : ℤ → Option ℤ
width_margin width = if int_eq width (pos 0) then None else Some (pos 0)

abbrev pub sub_margin : Side → List Font → Sub → Option ℤ
sub_margin side stock (sub_char font code) = Some (hang_of_glyph side stock font code)
sub_margin side stock (sub_lig font code covers) = Some (hang_of_glyph side stock font code)
sub_margin side stock (sub_kern width left) = None

abbrev pub item_margin : Side → List Font → Item → Option ℤ
item_margin side stock (Char font code) = Some (hang_of_glyph side stock font code)
item_margin side stock (Lig font code covers) = Some (hang_of_glyph side stock font code)
item_margin side stock (FontKern width left) = None
item_margin side stock (Kern width) = width_margin width
item_margin side stock (Glue glue) = Some (pos 0)
item_margin side stock (Penalty value) = None
item_margin side stock (Disc lists) = subs_margin side stock lists.whole
item_margin side stock (Box width) = width_margin width
