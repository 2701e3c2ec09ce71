-- The pen between two pieces.
--     pen-none      before the first piece
--     pen-glyph     behind a glyph
--     pen-pass      behind another piece
--     pen-place     where the next glyph goes
use Rattle.std.proofs.Common.{◌≡◌, ◌≢◌, ℕ, zero, suc, ◌+◌, refl, ap, sym, ◌∙◌, arith, List, [], take, Some, ℤ, pos, negsuc, neg_ℤ, ◌+ℤ◌, false}
use Rattle.std.specs.Prelude.{slice_get}
use Rattle.std.proofs.Math.IntN.{+ℤ_idr, +ℤ_assoc, *ℤ-zero}
use Rattle.std.proofs.Math.Nat.{div-eq_of_lt}
use Rattle.micro_num.specs.Rounding.{nearest, rounded}
use Rattle.break_rule.specs.declared.line.Piece.{Piece}
use Rattle.break_rule.specs.declared.line.Piece.TheVariants.{Glyph, Space, Move, FontMove}
use Rattle.hpack_two.specs.declared.glue.GlueSet.{GlueSet}
use Rattle.hpack_two.specs.declared.glue.GlueSet.TheVariants.{Natural, Stretched, Shrunk, ShrunkInFull}
use Rattle.hpack_two.specs.declared.places.Pen.{Pen}
use Rattle.hpack_two.specs.Glue.{given, given_by, given_of, shift_at}
use Rattle.hpack_two.specs.Lines.{Setting, x_behind, is_glyph}
use Rattle.hpack_two.specs.Pens.{IsSet, IsPen, shift_behind}
use Rattle.hpack_two.specs.Widths.{natural, natural_of, advance_of, chosen_step}
use Rattle.hpack_two.proofs.NextPieces.{natural-next, given-next}

nearest-none : (d : ℕ) → nearest 0 (suc d) ≡ 0
nearest-none d = div-eq_of_lt (omega arith)

rounded-none : (d : ℤ) → d ≢ pos 0 → rounded (pos 0) d ≡ pos 0
rounded-none (pos zero) some = absurd (some refl)
rounded-none (pos (suc d)) some = ap pos (nearest-none d)
rounded-none (negsuc d) some = ap (λ (n : ℕ). neg_ℤ (pos n)) (nearest-none d)

-- no glue shifts nothing
shift-none : (set : GlueSet) → IsSet set → shift_at set (pos 0) ≡ pos 0
unfolding shift_at
shift-none Natural is = refl
shift-none (Stretched order lacking total) is = ap (λ (n : ℤ). rounded n total) (*ℤ-zero lacking) ∙ rounded-none total is.some
shift-none (Shrunk surplus total) is =
    ap (λ (n : ℤ). neg_ℤ (rounded n total)) (*ℤ-zero surplus) ∙ ap neg_ℤ (rounded-none total is.some)
shift-none ShrunkInFull is = refl

pub pen-none : (set : Setting) (pen : Pen) → IsSet set.glue → pen.at ≡ set.indent → pen.given ≡ pos 0 → pen.shift ≡ pos 0 → IsPen set [] pen
unfolding natural given
pen-none set pen is at given_is shift = record {
  at = at ∙ sym (+ℤ_idr set.indent);
  given_is = given_is;
  shift = shift ∙ sym (shift-none set.glue is);
}

-- a piece that is no glue
given-same : (set : Setting) (pieces : List Piece) (i : ℕ) (piece : Piece) → slice_get pieces i ≡ Some piece → given_of set.glue piece ≡ pos 0
    → given set.glue (take i pieces) ≡ given set.glue (take (i + 1) pieces)
given-same set pieces i piece is none =
    sym (given-next set.glue pieces i piece is ∙ ap (λ (n : ℤ). given set.glue (take i pieces) +ℤ n) none ∙ +ℤ_idr (given set.glue (take i pieces)))

at-next : (set : Setting) (pieces : List Piece) (i : ℕ) (piece : Piece) (old new : Pen) → slice_get pieces i ≡ Some piece
    → IsPen set (take i pieces) old → new.at ≡ old.at +ℤ natural_of set.stock set.ratio piece
    → new.at ≡ set.indent +ℤ natural set.stock set.ratio (take (i + 1) pieces)
at-next set pieces i piece old new is kept at =
    at
    ∙ ap (λ (n : ℤ). n +ℤ natural_of set.stock set.ratio piece) kept.at
    ∙ +ℤ_assoc set.indent (natural set.stock set.ratio (take i pieces)) (natural_of set.stock set.ratio piece)
    ∙ ap (λ (n : ℤ). set.indent +ℤ n) (sym (natural-next set.stock set.ratio pieces i piece is))

pub pen-glyph : (set : Setting) (pieces : List Piece) (i font code : ℕ) (old new : Pen) → slice_get pieces i ≡ Some (Glyph font code)
    → IsPen set (take i pieces) old → new.at ≡ old.at +ℤ advance_of set.stock (chosen_step set.stock set.ratio font code) font code
    → new.given ≡ old.given → new.shift ≡ old.shift → IsPen set (take (i + 1) pieces) new
pen-glyph set pieces i font code old new is kept at given_is shift =
    let same = given-same set pieces i (Glyph font code) is refl in
    record {
      at = at-next set pieces i (Glyph font code) old new is kept at;
      given_is = given_is ∙ kept.given_is ∙ same;
      shift = shift ∙ kept.shift ∙ ap (shift_at set.glue) same;
    }

shift-next : (set : Setting) (pieces : List Piece) (i : ℕ) (piece : Piece) (old new : Pen) → slice_get pieces i ≡ Some piece
    → IsPen set (take i pieces) old → is_glyph piece ≡ false → new.shift ≡ shift_behind set.glue piece old.given old.shift
    → new.shift ≡ shift_at set.glue (given set.glue (take (i + 1) pieces))
shift-next set pieces i (Glyph font code) old new is kept other shift = absurd (cc)
shift-next set pieces i (Space glue) old new is kept other shift =
    shift
    ∙ ap (λ (n : ℤ). shift_at set.glue (n +ℤ given_by set.glue glue)) kept.given_is
    ∙ ap (shift_at set.glue) (sym (given-next set.glue pieces i (Space glue) is))
shift-next set pieces i (Move width) old new is kept other shift =
    shift ∙ kept.shift ∙ ap (shift_at set.glue) (given-same set pieces i (Move width) is refl)
shift-next set pieces i (FontMove font code fix width) old new is kept other shift =
    shift ∙ kept.shift ∙ ap (shift_at set.glue) (given-same set pieces i (FontMove font code fix width) is refl)

pub pen-pass : (set : Setting) (pieces : List Piece) (i : ℕ) (piece : Piece) (old new : Pen) → slice_get pieces i ≡ Some piece
    → is_glyph piece ≡ false → IsPen set (take i pieces) old → new.at ≡ old.at +ℤ natural_of set.stock set.ratio piece
    → new.given ≡ old.given +ℤ given_of set.glue piece → new.shift ≡ shift_behind set.glue piece old.given old.shift
    → IsPen set (take (i + 1) pieces) new
pen-pass set pieces i piece old new is other kept at given_is shift = record {
  at = at-next set pieces i piece old new is kept at;
  given_is =
      given_is ∙ ap (λ (n : ℤ). n +ℤ given_of set.glue piece) kept.given_is ∙ sym (given-next set.glue pieces i piece is);
  shift = shift-next set pieces i piece old new is kept other shift;
}

pub pen-place : (set : Setting) (before : List Piece) (pen : Pen) → IsPen set before pen → pen.at +ℤ pen.shift ≡ x_behind set before
unfolding x_behind
pen-place set before pen is =
    ap (λ (n : ℤ). n +ℤ pen.shift) is.at ∙ ap (λ (n : ℤ). set.indent +ℤ natural set.stock set.ratio before +ℤ n) is.shift
