-- How wide the pieces of a line are, with its fonts as they are and at the steps of its ratio (TeX:
-- The Program, sections 651 to 656; pdfTeX manual, `\pdfadjustspacing`, `\pdffontexpand` and
-- `\efcode`).
--     sums_of_piece, added      what pieces add to a line with its fonts as they are
--     ratio_of                  by how many thousandths of their limits fonts are expanded
--     chosen_step               the step that a character takes at a ratio
--     advance_of, kern_width    the widths of a character and of a kern at a step
--     natural_of, natural       the widths of pieces at the steps of a ratio
use Rattle.std.specs.Prelude.{ℕ, ℤ, pos, neg_ℤ, ◌+ℤ◌, ◌*ℤ◌, int_lt, Bool, ◌&&◌, not, if◌then◌else◌, List, fold, slice_get, Some, option_map, unwrap_or}
use Rattle.std.specs.Int.{int_min}
use Rattle.micro_num.specs.Rounding.{rounded}
use Rattle.micro_num.specs.Expansion.{width_at}
use Rattle.font_stock.specs.declared.font.Font.{Font}
use Rattle.font_stock.specs.Fonts.{char_of}
use Rattle.font_stock.specs.Steps.{step_of}
use Rattle.break_rule.specs.declared.line.Piece.{Piece}
use Rattle.break_rule.specs.declared.line.Piece.TheVariants.{Glyph, Space, Move, FontMove}
use Rattle.break_rule.specs.declared.sums.Sums.{Sums}
use Rattle.break_rule.specs.Adding.{nothing, plus, rigid, factor_of, sums_of_glue, sums_of_glyph, sums_of_kern}
use Rattle.break_rule.specs.Fits.{has_infinite}

abbrev pub kern_at : ℤ → ℤ → Font → ℤ
kern_at step fix font = width_at fix step font.size

unfoldable pub kern_width : List Font → ℤ → ℕ → ℤ → ℤ
kern_width stock step font fix =
    unwrap_or (option_map (kern_at step fix) (slice_get stock font)) (pos 0)

-- a kern that expands with the character before it, with its font as it is
abbrev pub sums_of_font_move : List Font → ℕ → ℕ → ℤ → Sums
sums_of_font_move stock font code fix =
    sums_of_kern stock (kern_width stock (pos 0) font fix)
    (Some (record { font = font; code = code; fix = fix }))

abbrev pub sums_of_piece : List Font → Piece → Sums
sums_of_piece stock (Glyph font code) = sums_of_glyph stock font code
sums_of_piece stock (Space glue) = sums_of_glue glue
sums_of_piece stock (Move width) = rigid width
sums_of_piece stock (FontMove font code fix width) = sums_of_font_move stock font code fix

abbrev pub with_piece : List Font → Sums → Piece → Sums
with_piece stock sums piece = plus sums (sums_of_piece stock piece)

unfoldable pub added : List Font → List Piece → Sums
added stock pieces = fold (with_piece stock) nothing pieces

-- so many thousandths of what the fonts can give are asked for, 1000 at most
abbrev pub share_of : ℤ → ℤ → ℤ
share_of asked given = int_min (rounded (pos 1000 *ℤ asked) given) (pos 1000)

-- Fonts stretch where a line lacks something, they can give something, and no glue of it stretches
-- infinitely; they shrink where it has too much and they can give something. `lacking` is what the
-- line lacks with its fonts as they are.
unfoldable pub ratio_of : Bool → ℤ → Sums → ℤ
ratio_of expand lacking sums =
    if expand && int_lt (pos 0) lacking && int_lt (pos 0) sums.font_stretch
    && not (has_infinite sums) then share_of lacking sums.font_stretch
    else (if expand && int_lt lacking (pos 0) && int_lt (pos 0) sums.font_shrink
    then neg_ℤ (share_of (neg_ℤ lacking) sums.font_shrink)
    else pos 0)

abbrev pub step_in : ℕ → ℤ → Font → ℤ
step_in code ratio font = step_of font.expand (factor_of font code) ratio

unfoldable pub chosen_step : List Font → ℤ → ℕ → ℕ → ℤ
chosen_step stock ratio font code =
    unwrap_or (option_map (step_in code ratio) (slice_get stock font)) (pos 0)

abbrev pub advance_in : ℤ → ℕ → Font → ℤ
advance_in step code font = width_at (char_of font.tfm code).width step font.size

unfoldable pub advance_of : List Font → ℤ → ℕ → ℕ → ℤ
advance_of stock step font code =
    unwrap_or (option_map (advance_in step code) (slice_get stock font)) (pos 0)

-- a font move has the step of the character before it
abbrev pub natural_of : List Font → ℤ → Piece → ℤ
natural_of stock ratio (Glyph font code) =
    advance_of stock (chosen_step stock ratio font code) font code
natural_of stock ratio (Space glue) = glue.width
natural_of stock ratio (Move width) = width
natural_of stock ratio (FontMove font code fix width) =
    kern_width stock (chosen_step stock ratio font code) font fix

abbrev pub with_natural : List Font → ℤ → ℤ → Piece → ℤ
with_natural stock ratio before piece = before +ℤ natural_of stock ratio piece

unfoldable pub natural : List Font → ℤ → List Piece → ℤ
natural stock ratio pieces = fold (with_natural stock ratio) (pos 0) pieces
