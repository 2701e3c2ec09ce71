-- What the items of a list add to a line (TeX: The Program, sections 837 to 842; pdfTeX manual, `\pdfadjustspacing`).
--     nothing, plus, minus    sums, field by field
--     sums_of_glue            what a glue adds
--     sums_of_glyph           what a character or ligature of a font adds: its width, and its share of the expansion
--     sums_of_kern            what a font kern adds; its share is that of the glyph before it
--     sums_of_sub, sums_of    what an entry of a discretionary and an item add; without a break a discretionary is its whole list
--     added                   what a list of items adds
use Rattle.std.specs.Prelude.{ℕ, ◌==◌, ℤ, pos, ◌+ℤ◌, ◌-ℤ◌, List, fold, slice_get, slice_index, Option, Some, None, option_map, unwrap_or, if◌then◌else◌}
use Rattle.micro_num.specs.declared.glue.Glue.{Glue}
use Rattle.micro_num.specs.Scaling.{scaled}
use Rattle.font_stock.specs.declared.font.Font.{Font}
use Rattle.font_stock.specs.Fonts.{char_of, stretch_at, shrink_at}
use Rattle.hlist.specs.declared.item.KernLeft.{KernLeft}
use Rattle.hlist.specs.declared.item.Item.{Item}
use Rattle.hlist.specs.declared.item.Item.TheVariants.{Char, Lig, FontKern, Kern, Glue as glue_item, Penalty, Disc, Box}
use Rattle.hlist.specs.declared.item.Sub.{Sub}
use Rattle.hlist.specs.declared.item.Sub.TheVariants.{Char as sub_char, Lig as sub_lig, FontKern as sub_kern}
use Rattle.break_rule.specs.declared.sums.Sums.{Sums}

abbrev pub rigid : ℤ → Sums
rigid width = record {
  width = width;
  finite = pos 0;
  fil = pos 0;
  fill = pos 0;
  filll = pos 0;
  shrink = pos 0;
  font_stretch = pos 0;
  font_shrink = pos 0;
}

abbrev pub nothing : Sums
nothing = rigid (pos 0)

unfoldable pub plus : Sums → Sums → Sums
plus a b = record {
  width = a.width +ℤ b.width;
  finite = a.finite +ℤ b.finite;
  fil = a.fil +ℤ b.fil;
  fill = a.fill +ℤ b.fill;
  filll = a.filll +ℤ b.filll;
  shrink = a.shrink +ℤ b.shrink;
  font_stretch = a.font_stretch +ℤ b.font_stretch;
  font_shrink = a.font_shrink +ℤ b.font_shrink;
}

unfoldable pub minus : Sums → Sums → Sums
minus a b = record {
  width = a.width -ℤ b.width;
  finite = a.finite -ℤ b.finite;
  fil = a.fil -ℤ b.fil;
  fill = a.fill -ℤ b.fill;
  filll = a.filll -ℤ b.filll;
  shrink = a.shrink -ℤ b.shrink;
  font_stretch = a.font_stretch -ℤ b.font_stretch;
  font_shrink = a.font_shrink -ℤ b.font_shrink;
}

abbrev pub where_order : ℕ → Glue → ℤ
where_order order glue = if glue.order == order then glue.stretch else pos 0

unfoldable pub sums_of_glue : Glue → Sums
sums_of_glue glue = record {
  width = glue.width;
  finite = where_order 0 glue;
  fil = where_order 1 glue;
  fill = where_order 2 glue;
  filll = where_order 3 glue;
  shrink = glue.shrink;
  font_stretch = pos 0;
  font_shrink = pos 0;
}

-- what a character's share in its font's expansion is, in thousandths
abbrev pub factor_of : Font → ℕ → ℕ
factor_of font code = slice_index font.codes.ef code

-- a width in sp, and how far a fix_word of a font grows and shrinks in the share of a character
abbrev pub expanding : Font → ℕ → ℤ → ℤ → Sums
expanding font code fix width = record (rigid width) {
  font_stretch = stretch_at font.expand (factor_of font code) fix font.size;
  font_shrink = shrink_at font.expand (factor_of font code) fix font.size;
}

abbrev pub glyph_in : ℕ → Font → Sums
glyph_in code font = expanding font code (char_of font.tfm code).width (scaled (char_of font.tfm code).width font.size)

abbrev pub kern_in : KernLeft → ℤ → Font → Sums
kern_in left width font = expanding font left.code left.fix width

-- a font that isn't there adds nothing; lists name fonts of the stock alone
unfoldable pub sums_of_glyph : List Font → ℕ → ℕ → Sums
sums_of_glyph stock font code = unwrap_or (option_map (glyph_in code) (slice_get stock font)) nothing

unfoldable pub sums_of_kern : List Font → ℤ → Option KernLeft → Sums
sums_of_kern stock width None = rigid width
sums_of_kern stock width (Some left) = unwrap_or (option_map (kern_in left width) (slice_get stock left.font)) (rigid width)

abbrev pub sums_of_sub : List Font → Sub → Sums
sums_of_sub stock (sub_char font code) = sums_of_glyph stock font code
sums_of_sub stock (sub_lig font code covers) = sums_of_glyph stock font code
sums_of_sub stock (sub_kern width left) = sums_of_kern stock width left

abbrev pub with_sub : List Font → Sums → Sub → Sums
with_sub stock sums sub = plus sums (sums_of_sub stock sub)

unfoldable pub added_subs : List Font → List Sub → Sums
added_subs stock subs = fold (with_sub stock) nothing subs

abbrev pub sums_of : List Font → Item → Sums
sums_of stock (Char font code) = sums_of_glyph stock font code
sums_of stock (Lig font code covers) = sums_of_glyph stock font code
sums_of stock (FontKern width left) = sums_of_kern stock width left
sums_of stock (Kern width) = rigid width
sums_of stock (glue_item glue) = sums_of_glue glue
sums_of stock (Penalty value) = nothing
sums_of stock (Disc lists) = added_subs stock lists.whole
sums_of stock (Box width) = rigid width

abbrev pub with_item : List Font → Sums → Item → Sums
with_item stock sums item = plus sums (sums_of stock item)

unfoldable pub added : List Font → List Item → Sums
added stock items = fold (with_item stock) nothing items
