-- A set line (TeX: The Program, sections 619 to 634 and 649 to 667; pdfTeX manual,
-- `\pdfadjustspacing`).
--     Setting, setting_of    by what a line is set: its ratio, its glue, and where it begins
--     x_behind               the place behind pieces, each added anew, and the shift of their glue
--     chosen_of              a glyph with its step and its width, before it has a place
--     glyphs_behind          the glyphs of a line behind some pieces
--     set_line               the line
--     first_out              its first glyph with an edge past 2^30 - 1 sp
--     stepped                the cells of glyphs that are expanded
use Rattle.std.specs.Prelude.{ℕ, ℤ, pos, negsuc, ◌+ℤ◌, ◌-ℤ◌, int_lt, Bool, true, false, ◌&&◌, not, if◌then◌else◌, List, [], ◌∷◌, ◌++◌, map, fold, flat_map, slice_get, Option, option_map, unwrap_or}
use Rattle.std.specs.Int.{int_max}
use Rattle.std.specs.List.{position_from}
use Rattle.micro_num.specs.Scaling.{scaled}
use Rattle.font_stock.specs.declared.font.Font.{Font}
use Rattle.font_stock.specs.Fonts.{char_of}
use Rattle.break_rule.specs.declared.line.Piece.{Piece}
use Rattle.break_rule.specs.declared.line.Piece.TheVariants.{Glyph}
use Rattle.break_rule.specs.declared.line.LineIn.{LineIn}
use Rattle.instance_core.specs.declared.cell.Cell.{Cell}
use Rattle.instance_core.specs.declared.page.Placed.{Placed}
use Rattle.instance_core.specs.declared.page.Packed.{Packed}
use Rattle.hpack_two.specs.declared.glue.GlueSet.{GlueSet}
use Rattle.hpack_two.specs.Widths.{added, ratio_of, chosen_step, advance_of, natural}
use Rattle.hpack_two.specs.Glue.{set_of, given, shift_at, is_some}

pub record Setting : Type 0 where
  pub stock : List Font
  pub ratio : ℤ
  pub glue : GlueSet
  pub indent : ℤ

abbrev pub setting_with : List Font → ℤ → GlueSet → ℤ → Setting
setting_with stock ratio glue indent =
    record { stock = stock; ratio = ratio; glue = glue; indent = indent }

abbrev pub line_ratio : List Font → LineIn → ℤ → ℤ
line_ratio stock line width =
    ratio_of line.expand (width -ℤ (added stock line.pieces).width) (added stock line.pieces)

-- what a line lacks is taken anew when its fonts have their steps
abbrev pub at_ratio : List Font → List Piece → ℤ → ℤ → ℤ → Setting
at_ratio stock pieces width indent ratio =
    setting_with stock ratio (set_of (width -ℤ natural stock ratio pieces) (added stock pieces))
    indent

unfoldable pub setting_of : List Font → LineIn → ℤ → ℤ → Setting
setting_of stock line width indent =
    at_ratio stock line.pieces width indent (line_ratio stock line width)

unfoldable pub x_behind : Setting → List Piece → ℤ
x_behind set before =
    set.indent +ℤ natural set.stock set.ratio before +ℤ shift_at set.glue (given set.glue before)

abbrev pub with_step : List Font → ℤ → ℕ → ℕ → Placed
with_step stock step font code = record {
  x = pos 0;
  cell = record { font = font; step = step };
  code = code;
  advance = advance_of stock step font code;
}

abbrev pub chosen_of : List Font → ℤ → Piece → List Placed
chosen_of stock ratio (Glyph font code) =
    with_step stock (chosen_step stock ratio font code) font code ∷ []
chosen_of stock ratio _ = []

unfoldable pub all_chosen : List Font → ℤ → List Piece → List Placed
all_chosen stock ratio pieces = flat_map (chosen_of stock ratio) pieces

abbrev pub is_glyph : Piece → Bool
is_glyph (Glyph font code) = true
is_glyph _ = false

abbrev pub placed_at : ℤ → Placed → Placed
placed_at x glyph = record { x = x; cell = glyph.cell; code = glyph.code; advance = glyph.advance }

abbrev pub glyph_behind : Setting → List Piece → Piece → List Placed
glyph_behind set before piece =
    map (placed_at (x_behind set before)) (chosen_of set.stock set.ratio piece)

unfoldable pub glyphs_behind : Setting → List Piece → List Piece → List Placed
glyphs_behind set before [] = []
glyphs_behind set before (piece ∷ pieces) =
    glyph_behind set before piece ++ glyphs_behind set (before ++ piece ∷ []) pieces

abbrev pub height_in : ℕ → Font → ℤ
height_in code font = scaled (char_of font.tfm code).height font.size

abbrev pub depth_in : ℕ → Font → ℤ
depth_in code font = scaled (char_of font.tfm code).depth font.size

unfoldable pub height_of : List Font → ℕ → ℕ → ℤ
height_of stock font code = unwrap_or (option_map (height_in code) (slice_get stock font)) (pos 0)

unfoldable pub depth_of : List Font → ℕ → ℕ → ℤ
depth_of stock font code = unwrap_or (option_map (depth_in code) (slice_get stock font)) (pos 0)

abbrev pub higher : List Font → ℤ → Piece → ℤ
higher stock height (Glyph font code) = int_max height (height_of stock font code)
higher stock height _ = height

abbrev pub deeper : List Font → ℤ → Piece → ℤ
deeper stock depth (Glyph font code) = int_max depth (depth_of stock font code)
deeper stock depth _ = depth

-- a line is as high and as deep as its highest and its deepest glyph, and at least 0
unfoldable pub height_of_line : List Font → List Piece → ℤ
height_of_line stock pieces = fold (higher stock) (pos 0) pieces

unfoldable pub depth_of_line : List Font → List Piece → ℤ
depth_of_line stock pieces = fold (deeper stock) (pos 0) pieces

unfoldable pub glyphs_of : List Font → LineIn → ℤ → ℤ → List Placed
glyphs_of stock line width indent =
    glyphs_behind (setting_of stock line width indent) [] line.pieces

-- a line in a setting that ends there
abbrev pub line_in_setting : Setting → List Piece → ℤ → Packed
line_in_setting set pieces end = record {
  glyphs = glyphs_behind set [] pieces;
  height = height_of_line set.stock pieces;
  depth = depth_of_line set.stock pieces;
  width = end;
}

abbrev pub set_line : List Font → LineIn → ℤ → ℤ → Packed
set_line stock line width indent =
    line_in_setting (setting_of stock line width indent) line.pieces (indent +ℤ width)

-- within ±(2^30 - 1) sp, the indent counted
abbrev pub is_place : ℤ → Bool
is_place x = not (int_lt x (negsuc 1073741822)) && not (int_lt (pos 1073741823) x)

-- both edges of a glyph are such places
abbrev pub stands : ℤ → ℤ → Bool
stands x advance = is_place x && is_place (x +ℤ advance)

abbrev pub is_out : Placed → Bool
is_out glyph = not (stands glyph.x glyph.advance)

abbrev pub first_out : List Placed → Option ℕ
first_out glyphs = position_from is_out 0 glyphs

-- a cell that is asked for: the base width is known
abbrev pub stepped_cell : Cell → List Cell
stepped_cell cell = if is_some cell.step then cell ∷ [] else []

unfoldable pub stepped : List Placed → List Cell
stepped glyphs = flat_map (λ (glyph : Placed). stepped_cell glyph.cell) glyphs
