-- From the line in its setting to what packing answers.
--     stepped-places    glyphs at places are expanded as they were chosen
--     fault-set         a fault of the places is one of the line
--     answers-packed    a line in its setting is the line
--     ratio-is, setting-is   the ratio and the setting of a line from what was worked out
--     asked-is, asked-known  which cells were asked for
use Rattle.std.proofs.Common.{◌≡◌, refl, ap, sym, ◌∙◌, List, [], ◌∷◌, ◌++◌, subst, ℤ, ◌+ℤ◌, ◌-ℤ◌, w32, FitsSigned, to_z, of_z, Result, Ok, Err}
use Rattle.std.proofs.lemmas.Int.{to_z-of_z}
use Rattle.font_stock.specs.declared.font.Font.{Font}
use Rattle.break_rule.specs.declared.line.Piece.{Piece}
use Rattle.break_rule.specs.declared.line.Piece.TheVariants.{Glyph, Space, Move, FontMove}
use Rattle.break_rule.specs.declared.line.LineIn.{LineIn}
use Rattle.break_rule.specs.declared.sums.Sums.{Sums}
use Rattle.instance_core.specs.declared.page.Packed.{Packed}
use Rattle.hpack_two.specs.declared.fault.PackFault.{PackFault}
use Rattle.hpack_two.specs.declared.fault.PackFault.TheVariants.{OutOfRange, NoMemory}
use Rattle.hpack_two.specs.Answers.{AnswersPacked, AnswersPlaced, AnswersSet, asked_by}
use Rattle.hpack_two.specs.Lines.{Setting, setting_of, at_ratio, line_ratio, chosen_of, all_chosen, glyph_behind, glyphs_behind, glyphs_of, stepped}
use Rattle.hpack_two.specs.Widths.{added, ratio_of}
use Rattle.hpack_two.proofs.Choices.{stepped-append}

stepped-piece : (set : Setting) (before : List Piece) (piece : Piece) → stepped (glyph_behind set before piece) ≡ stepped (chosen_of set.stock set.ratio piece)
unfolding stepped
stepped-piece set before (Glyph font code) = refl
stepped-piece set before (Space glue) = refl
stepped-piece set before (Move width) = refl
stepped-piece set before (FontMove font code fix width) = refl

pub stepped-places : (set : Setting) (before pieces : List Piece) → stepped (glyphs_behind set before pieces) ≡ stepped (all_chosen set.stock set.ratio pieces)
unfolding glyphs_behind all_chosen
stepped-places set before [] = refl
stepped-places set before (piece ∷ pieces) =
    stepped-append (glyph_behind set before piece) (glyphs_behind set (before ++ piece ∷ []) pieces)
    ∙ ap (λ cells. cells ++ stepped (glyphs_behind set (before ++ piece ∷ []) pieces)) (stepped-piece set before piece)
    ∙ ap (λ cells. stepped (chosen_of set.stock set.ratio piece) ++ cells) (stepped-places set (before ++ piece ∷ []) pieces)
    ∙ sym (stepped-append (chosen_of set.stock set.ratio piece) (all_chosen set.stock set.ratio pieces))

pub fault-set : (set : Setting) (pieces : List Piece) (end : ℤ) (fault : PackFault) → AnswersPlaced set pieces (Err fault) → AnswersSet set pieces end (Err fault)
fault-set set pieces end (OutOfRange glyph) is = is
fault-set set pieces end NoMemory is = is

pub answers-packed : (stock : List Font) (line : LineIn) (width indent : ℤ) (result : Result Packed PackFault)
    → AnswersSet (setting_of stock line width indent) line.pieces (indent +ℤ width) result → AnswersPacked stock line width indent result
unfolding glyphs_of
answers-packed stock line width indent (Ok packed) is = is
answers-packed stock line width indent (Err (OutOfRange glyph)) is = is
answers-packed stock line width indent (Err NoMemory) is = tt

-- the ratio of the line, from what its pieces add up to
pub ratio-is : (stock : List Font) (line : LineIn) (width : ℤ) (pieces : List Piece) (sums : Sums) (lacking ratio : ℤ) → pieces ≡ line.pieces
    → sums ≡ added stock pieces → lacking ≡ width -ℤ sums.width → ratio ≡ ratio_of line.expand lacking sums → ratio ≡ line_ratio stock line width
ratio-is stock line width pieces sums lacking ratio pieces_are sums_are lacks is =
    let all : sums ≡ added stock line.pieces = sums_are ∙ ap (added stock) pieces_are in
    is ∙ ap (λ (n : ℤ). ratio_of line.expand n sums) lacks ∙ ap (λ (s : Sums). ratio_of line.expand (width -ℤ s.width) s) all

-- its setting, from what was worked out
pub setting-is : (stock own : List Font) (line : LineIn) (width indent ratio : ℤ) (pieces : List Piece) (result : Result Packed PackFault)
    → FitsSigned w32 width → FitsSigned w32 indent → own ≡ stock → pieces ≡ line.pieces → ratio ≡ line_ratio stock line width
    → AnswersSet (at_ratio own pieces (to_z w32 (of_z w32 width)) (to_z w32 (of_z w32 indent)) ratio) pieces
    (to_z w32 (of_z w32 indent) +ℤ to_z w32 (of_z w32 width)) result
    → AnswersSet (setting_of stock line width indent) line.pieces (indent +ℤ width) result
unfolding setting_of
setting-is stock own line width indent ratio pieces result width_fits indent_fits own_is pieces_are ratio_is answers =
    subst (λ (r : ℤ). AnswersSet (at_ratio stock line.pieces width indent r) line.pieces (indent +ℤ width) result) ratio_is
    (subst (λ (ps : List Piece). AnswersSet (at_ratio stock ps width indent ratio) ps (indent +ℤ width) result) pieces_are
    (subst (λ (s : List Font). AnswersSet (at_ratio s pieces width indent ratio) pieces (indent +ℤ width) result) own_is
    (subst (λ (z : ℤ). AnswersSet (at_ratio own pieces width z ratio) pieces (z +ℤ width) result) (to_z-of_z w32 indent indent_fits)
    (subst (λ (z : ℤ). AnswersSet (at_ratio own pieces z (to_z w32 (of_z w32 indent)) ratio) pieces (to_z w32 (of_z w32 indent) +ℤ z) result)
    (to_z-of_z w32 width width_fits) answers))))

pub asked-known : (stock own : List Font) (line : LineIn) (width indent ratio : ℤ) (pieces : List Piece) (result : Result Packed PackFault)
    → own ≡ stock → pieces ≡ line.pieces → ratio ≡ line_ratio stock line width
    → stepped (all_chosen stock (line_ratio stock line width) line.pieces) ≡ asked_by (glyphs_of stock line width indent) result
    → stepped (all_chosen own ratio pieces) ≡ asked_by (glyphs_of stock line width indent) result
asked-known stock own line width indent ratio pieces result own_is pieces_are ratio_is asked =
    ap (λ (s : List Font). stepped (all_chosen s ratio pieces)) own_is
    ∙ ap (λ (r : ℤ). stepped (all_chosen stock r pieces)) ratio_is
    ∙ ap (λ (ps : List Piece). stepped (all_chosen stock (line_ratio stock line width) ps)) pieces_are
    ∙ asked

pub asked-is : (stock : List Font) (line : LineIn) (width indent : ℤ) (result : Result Packed PackFault)
    → AnswersSet (setting_of stock line width indent) line.pieces (indent +ℤ width) result
    → stepped (all_chosen stock (line_ratio stock line width) line.pieces) ≡ asked_by (glyphs_of stock line width indent) result
unfolding glyphs_of setting_of
asked-is stock line width indent (Ok packed) is = sym (stepped-places (setting_of stock line width indent) [] line.pieces)
asked-is stock line width indent (Err (OutOfRange glyph)) is = sym (stepped-places (setting_of stock line width indent) [] line.pieces)
asked-is stock line width indent (Err NoMemory) is = absurd is
