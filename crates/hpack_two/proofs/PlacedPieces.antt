-- What is kept while the glyphs of a line get their places.
--     IsPlacing        behind so many pieces
--     placing-none     before the first
--     glyph-inside     the next glyph is in the list
--     glyph-is         it is the one that was chosen
--     placing-glyph    behind a glyph that stands
--     placing-out      a glyph that doesn't stand
--     placing-pass     behind another piece
--     not-glyph        which is no glyph
use Rattle.std.proofs.Common.{◌≡◌, ℕ, ◌+◌, ◌*◌, ◌^◌, ◌<◌, ◌≤◌, refl, ap, sym, ◌∙◌, arith, List, [], length, take, get_or, set as put, Bool, true, false, not, Some, ℤ, pos, ◌+ℤ◌, w32, FitsSigned}
use Rattle.std.specs.Prelude.{slice_get, unsigned_abs}
use Rattle.std.proofs.lemmas.Int.{ints}
use Rattle.break_rule.specs.declared.line.Piece.{Piece}
use Rattle.break_rule.specs.declared.line.Piece.TheVariants.{Glyph, Space, Move, FontMove}
use Rattle.instance_core.specs.declared.page.Placed.{Placed}
use Rattle.hpack_two.specs.declared.places.Pen.{Pen}
use Rattle.hpack_two.specs.Glue.{given_of}
use Rattle.hpack_two.specs.Lines.{Setting, all_chosen, with_step, placed_at, x_behind, is_glyph, is_out, stands, glyphs_behind, first_out}
use Rattle.hpack_two.specs.Pens.{IsSet, IsPen, shift_behind}
use Rattle.hpack_two.specs.Widths.{natural_of, chosen_step}
use Rattle.hpack_two.proofs.Placing.{Places, places-none, places-pass, places-glyph, glyph-here, inside-here, read-here, out-here}
use Rattle.hpack_two.proofs.PenSteps.{pen-none, pen-glyph, pen-pass, pen-place}
use Rattle.hpack_two.proofs.Stored.{size-of_fits}

pub record IsPlacing (set : Setting) (pieces : List Piece) (i glyph : ℕ) (glyphs : List Placed) (pen : Pen) : Type 0 where
  pub placed : Places set pieces i glyph glyphs
  pub pen_is : IsPen set (take i pieces) pen
  pub count : glyph ≤ i
  pub near_at : unsigned_abs pen.at ≤ 2 ^ 31 + i * 2 ^ 33
  pub near_given : unsigned_abs pen.given ≤ i * 2 ^ 31
  pub near_shift : unsigned_abs pen.shift ≤ 2 ^ 122

pub placing-none : (set : Setting) (pieces : List Piece) (glyphs : List Placed) (pen : Pen) → glyphs ≡ all_chosen set.stock set.ratio pieces
    → IsSet set.glue → pen.at ≡ set.indent → pen.given ≡ pos 0 → pen.shift ≡ pos 0 → unsigned_abs pen.at ≤ 2 ^ 31
    → IsPlacing set pieces 0 0 glyphs pen
placing-none set pieces glyphs pen glyphs_are is at given shift near = record {
  placed = places-none set pieces glyphs glyphs_are;
  pen_is = pen-none set pen is at given shift;
  count = omega arith;
  near_at = omega (arith, near);
  near_given = rw given (omega arith);
  near_shift = rw shift (omega arith);
}

-- the next glyph, as it was chosen
abbrev next_glyph : Setting → ℕ → ℕ → Placed
next_glyph set font code = with_step set.stock (chosen_step set.stock set.ratio font code) font code

pub glyph-inside : (set : Setting) (pieces : List Piece) (i font code glyph : ℕ) (glyphs : List Placed) (pen : Pen)
    → slice_get pieces i ≡ Some (Glyph font code) → IsPlacing set pieces i glyph glyphs pen → glyph < length glyphs
glyph-inside set pieces i font code glyph glyphs pen is kept =
    inside-here glyphs glyph _ _ (glyph-here set pieces i font code glyph glyphs is kept.placed)

pub glyph-is : (set : Setting) (pieces : List Piece) (i font code glyph : ℕ) (glyphs : List Placed) (pen : Pen) (old : Placed)
    → slice_get pieces i ≡ Some (Glyph font code) → IsPlacing set pieces i glyph glyphs pen → old ≡ get_or glyphs glyph old
    → old ≡ next_glyph set font code
glyph-is set pieces i font code glyph glyphs pen old is kept read =
    read-here glyphs glyph (next_glyph set font code) old _ (glyph-here set pieces i font code glyph glyphs is kept.placed) read

pub placing-glyph : (set : Setting) (pieces : List Piece) (i font code glyph : ℕ) (glyphs : List Placed) (old_pen new_pen : Pen) (old : Placed)
    → slice_get pieces i ≡ Some (Glyph font code) → IsPlacing set pieces i glyph glyphs old_pen → old ≡ get_or glyphs glyph old
    → stands (old_pen.at +ℤ old_pen.shift) old.advance ≡ true → FitsSigned w32 old.advance
    → new_pen.at ≡ old_pen.at +ℤ old.advance → new_pen.given ≡ old_pen.given → new_pen.shift ≡ old_pen.shift
    → IsPlacing set pieces (i + 1) (glyph + 1) (put glyphs glyph (placed_at (old_pen.at +ℤ old_pen.shift) old)) new_pen
placing-glyph set pieces i font code glyph glyphs old_pen new_pen old is kept read standing fits at given shift =
    let own = glyph-is set pieces i font code glyph glyphs old_pen old is kept read in
    let place = pen-place set (take i pieces) old_pen kept.pen_is in
    record {
      placed = places-glyph set pieces i font code glyph glyphs (placed_at (old_pen.at +ℤ old_pen.shift) old) is kept.placed
          (ap (λ (x : ℤ). placed_at x old) place ∙ ap (placed_at (x_behind set (take i pieces))) own)
          (ap not standing);
      pen_is = pen-glyph set pieces i font code old_pen new_pen is kept.pen_is
          (at ∙ ap (λ (g : Placed). old_pen.at +ℤ g.advance) own) given shift;
      count = omega (arith, kept.count);
      near_at = rw at (near old_pen.at old.advance (size-of_fits old.advance fits) kept.near_at);
      near_given = rw given (omega (arith, kept.near_given));
      near_shift = rw shift kept.near_shift;
    }
  where
    near : (a b : ℤ) → unsigned_abs b ≤ 2 ^ 31 → unsigned_abs a ≤ 2 ^ 31 + i * 2 ^ 33 → unsigned_abs (a +ℤ b) ≤ 2 ^ 31 + (i + 1) * 2 ^ 33
    near a b small so_far = omega (arith, ints, small, so_far)

pub placing-out : (set : Setting) (pieces : List Piece) (i font code glyph : ℕ) (glyphs : List Placed) (pen : Pen) (old : Placed)
    → slice_get pieces i ≡ Some (Glyph font code) → IsPlacing set pieces i glyph glyphs pen → old ≡ get_or glyphs glyph old
    → (stands (pen.at +ℤ pen.shift) old.advance ≡ true → ⊥) → first_out (glyphs_behind set [] pieces) ≡ Some glyph
placing-out set pieces i font code glyph glyphs pen old is kept read falls =
    let own = glyph-is set pieces i font code glyph glyphs pen old is kept read in
    let place = pen-place set (take i pieces) pen kept.pen_is in
    let out : is_out (placed_at (pen.at +ℤ pen.shift) old) ≡ true = falls-out (stands (pen.at +ℤ pen.shift) old.advance) falls in
    out-here set pieces i font code glyph glyphs is kept.placed
    (ap is_out (sym (ap (λ (x : ℤ). placed_at x old) place ∙ ap (placed_at (x_behind set (take i pieces))) own)) ∙ out)
  where
    falls-out : (b : Bool) → (b ≡ true → ⊥) → not b ≡ true
    falls-out true falls = absurd (falls refl)
    falls-out false falls = refl

pub placing-pass : (set : Setting) (pieces : List Piece) (i glyph : ℕ) (glyphs : List Placed) (piece : Piece) (old_pen new_pen : Pen)
    → slice_get pieces i ≡ Some piece → is_glyph piece ≡ false → IsPlacing set pieces i glyph glyphs old_pen
    → new_pen.at ≡ old_pen.at +ℤ natural_of set.stock set.ratio piece → new_pen.given ≡ old_pen.given +ℤ given_of set.glue piece
    → new_pen.shift ≡ shift_behind set.glue piece old_pen.given old_pen.shift
    → unsigned_abs new_pen.at ≤ unsigned_abs old_pen.at + 2 ^ 33 → unsigned_abs new_pen.given ≤ unsigned_abs old_pen.given + 2 ^ 31
    → unsigned_abs new_pen.shift ≤ 2 ^ 122 → IsPlacing set pieces (i + 1) glyph glyphs new_pen
placing-pass set pieces i glyph glyphs piece old_pen new_pen is other kept at given shift near_at near_given near_shift = record {
  placed = places-pass set pieces i glyph glyphs piece is other kept.placed;
  pen_is = pen-pass set pieces i piece old_pen new_pen is other kept.pen_is at given shift;
  count = omega (arith, kept.count);
  near_at = omega (arith, near_at, kept.near_at);
  near_given = omega (arith, near_given, kept.near_given);
  near_shift = near_shift;
}

pub not-glyph : (piece : Piece) → ((font code : ℕ) → piece ≡ Glyph font code → ⊥) → is_glyph piece ≡ false
not-glyph (Glyph font code) other = absurd (other font code refl)
not-glyph (Space glue) other = refl
not-glyph (Move width) other = refl
not-glyph (FontMove font code fix width) other = refl
