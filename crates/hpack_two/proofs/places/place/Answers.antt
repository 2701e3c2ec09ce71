-- Piece by piece: a glyph gets its place, another piece is passed.
use Rattle.std.proofs.Common.{◌≡◌, ℕ, ◌≤◌, ◌^◌, refl, ap, sym, ◌∙◌, subst, arith, List, ℤ, ◌+ℤ◌, set as put, ◌+◌, true, w32, w64, FitsSigned, to_z, of_z, rules}
use Rattle.std.specs.Prelude.{slice_get, Some, unsigned_abs, Vec}
use Rattle.std.proofs.Math.Facts.{sfits_widen}
use Rattle.std.proofs.lemmas.Int.{to_z-of_z}
use Rattle.std.proofs.lemmas.Option.{slice_get_read}
use Rattle.break_rule.specs.declared.line.Piece.{Piece}
use Rattle.break_rule.specs.declared.line.Piece.TheVariants.{Glyph}
use Rattle.instance_core.specs.declared.page.Placed.{Placed}
use Rattle.std.specs.declared.alloc.Global.{Global}
use Rattle.hpack_two.specs.declared.places.Pen.{Pen}
use Rattle.hpack_two.specs.declared.steps.Steps.{Steps}
use Rattle.hpack_two.specs.Lines.{Setting, setting_with, placed_at, stands}
use Rattle.font_stock.specs.declared.font.Font.{Font}
use Rattle.hpack_two.specs.Widths.{natural_of}
use Rattle.hpack_two.proofs.PlacedPieces.{IsPlacing, placing-none, glyph-inside, glyph-is, placing-glyph, placing-out, placing-pass, not-glyph}
use Rattle.hpack_two.proofs.Placing.{places-all}
use Rattle.hpack_two.proofs.Stored.{size-of_fits, sum-stored}
use Rattle.hpack_two.proofs.places.place.Goals as goal
use Rattle.hpack_two.proofs.places.place.Goals.{in-Glyph+in-Some, in_default}

next-is : (pieces : List Piece) (i font code : ℕ) (piece : Piece) → slice_get pieces i ≡ Some piece → piece ≡ Glyph font code
    → slice_get pieces i ≡ Some (Glyph font code)
next-is pieces i font code piece is glyph_is = is ∙ ap Some glyph_is

moved : (set : Setting) (pieces : List Piece) (i n n' : ℕ) (gs gs' : List Placed) (pen pen' : Pen) → n' ≡ n → gs' ≡ gs → pen' ≡ pen
    → IsPlacing set pieces i n gs pen → IsPlacing set pieces i n' gs' pen'
moved set pieces i n n' gs gs' pen pen' n_is gs_is pen_is kept = rw (n_is, gs_is, pen_is) kept

pub index-requires : goal.index-requires
index-requires c =
    let is = next-is c.args.pieces.now c.loop-piece.piece-index c.in-Glyph.font c.in-Glyph.code c.piece-item.result
    (slice_get_read _ _ _ _ refl c.loop-piece-test.true c.piece-item.is) c.in-Glyph.is in
    let inside = glyph-inside _ c.args.pieces.now c.loop-piece.piece-index c.in-Glyph.font c.in-Glyph.code c.loop-piece.glyph c.loop-piece.glyphs.items c.loop-piece.pen is c.loop-piece.invariant.kept in
    omega (arith, inside, c.loop-piece.glyphs.ok.0)

pub index_mut-requires : goal.index_mut-requires
index_mut-requires c =
    let is = next-is c.args.pieces.now c.loop-piece.piece-index c.in-Glyph.font c.in-Glyph.code c.piece-item.result
    (slice_get_read _ _ _ _ refl c.loop-piece-test.true c.piece-item.is) c.in-Glyph.is in
    let inside = glyph-inside _ c.args.pieces.now c.loop-piece.piece-index c.in-Glyph.font c.in-Glyph.code c.loop-piece.glyph c.loop-piece.glyphs.items c.loop-piece.pen is c.loop-piece.invariant.kept in
    omega (arith, inside, c.loop-piece.glyphs.ok.0)

pub returns-in_default-standing : goal.returns-in_default-standing
returns-in_default-standing c =
    let is = next-is c.args.pieces.now c.loop-piece.piece-index c.in-Glyph.font c.in-Glyph.code c.piece-item.result
    (slice_get_read _ _ _ _ refl c.loop-piece-test.true c.piece-item.is) c.in-Glyph.is in
    let indent_fits : FitsSigned w32 c.args.indent = search rules in
    let advance_fits : FitsSigned w32 c.index.result.now.advance = search rules in
    let kept = subst (λ (z : ℤ). IsPlacing (setting_with c.args.steps.now.stock.now c.args.steps.now.ratio c.args.set.now z) c.args.pieces.now c.loop-piece.piece-index c.loop-piece.glyph c.loop-piece.glyphs.items c.loop-piece.pen)
    (to_z-of_z w32 c.args.indent indent_fits) c.loop-piece.invariant.kept in
    let falls = subst (λ (a : ℤ). stands (c.loop-piece.pen.at +ℤ c.loop-piece.pen.shift) a ≡ true → ⊥) (to_z-of_z w32 c.index.result.now.advance advance_fits) c.in_default-standing.ensures in
    placing-out _ c.args.pieces.now c.loop-piece.piece-index c.in-Glyph.font c.in-Glyph.code c.loop-piece.glyph c.loop-piece.glyphs.items c.loop-piece.pen c.index.result.now is kept c.index.ensures falls

pub loop-piece-init : goal.loop-piece-init
loop-piece-init c =
    let fits : FitsSigned w32 c.args.indent = search rules in
    let cast_fits : FitsSigned w32 (to_z w32 (of_z w32 c.args.indent)) = subst (FitsSigned w32) (sym (to_z-of_z w32 c.args.indent fits)) fits in
    let at = to_z-of_z w64 (to_z w32 (of_z w32 c.args.indent)) (sfits_widen tt cast_fits) in
    record {
      kept = placing-none (setting_with c.args.steps.now.stock.now c.args.steps.now.ratio c.args.set.now (to_z w32 (of_z w32 c.args.indent))) c.args.pieces.now c.args.glyphs.items _ c.requires.glyphs c.requires.set at refl refl
          (rw at (size-of_fits (to_z w32 (of_z w32 c.args.indent)) cast_fits));
      stock = refl;
      ratio = refl;
    }

pub loop-piece-preserved : goal.loop-piece-preserved
loop-piece-preserved c =
    let pieces = c.args.pieces.now in
    let i = c.loop-piece.piece-index in
    let pen = c.loop-piece.pen in
    let items = c.loop-piece.glyphs.items in
    let glyph = c.loop-piece.glyph in
    let setting = setting_with c.args.steps.now.stock.now c.args.steps.now.ratio c.args.set.now (to_z w32 (of_z w32 c.args.indent)) in
    let kept = c.loop-piece.invariant.kept in
    let is : slice_get pieces i ≡ Some c.piece-item.result = slice_get_read _ _ _ _ refl c.loop-piece-test.true c.piece-item.is in
    elim c.match-piece.branch [
      | in-Glyph+in-Some w ↦
          let here = next-is pieces i w.in-Glyph.font w.in-Glyph.code c.piece-item.result is w.in-Glyph.is in
          let old = w.index.result.now in
          let same : w.index_mut.result.now ≡ old =
          glyph-is setting pieces i w.in-Glyph.font w.in-Glyph.code glyph items pen w.index_mut.result.now here kept w.index_mut.ensures.value
          ∙ sym (glyph-is setting pieces i w.in-Glyph.font w.in-Glyph.code glyph items pen old here kept w.index.ensures) in
          let x_fits : FitsSigned w32 w.in-Some.x = search rules in
          let at_fits : FitsSigned w64 pen.at = search rules in
          let fits : FitsSigned w32 old.advance = search rules in
          let small : unsigned_abs pen.at ≤ 2 ^ 60 = omega (arith, kept.near_at, c.loop-piece-test.true, c.requires.over.few) in
          let standing = subst (λ (a : ℤ). stands (pen.at +ℤ pen.shift) a ≡ true) (to_z-of_z w32 old.advance fits) w.in-Some.ensures.0 in
          let placed = ap (λ (x : ℤ). placed_at x w.index_mut.result.now) (to_z-of_z w32 w.in-Some.x x_fits ∙ w.in-Some.ensures.1) ∙ ap (placed_at (pen.at +ℤ pen.shift)) same in
          let now = placing-glyph setting pieces i w.in-Glyph.font w.in-Glyph.code glyph items pen _ old here kept w.index.ensures standing fits
          (sum-stored pen.at old.advance at_fits fits small) refl refl in
          record {
            kept = moved setting pieces (i + 1) _ _ _ _ _ _ w.glyph-is (ap (λ (v : Vec Placed Global). v.items) w.glyphs-is ∙ ap (put items glyph) placed) w.pen-is now;
            stock = ap (λ (s : Steps). s.stock.now) w.steps-is ∙ c.loop-piece.invariant.stock;
            ratio = ap (λ (s : Steps). s.ratio) w.steps-is ∙ c.loop-piece.invariant.ratio;
          }
      | in_default w ↦
          let stock = c.args.steps.now.stock.now in
          let piece = c.piece-item.result in
          let other = not-glyph piece w.in_default.not-Glyph in
          let at : w.pass.new.self.at ≡ pen.at +ℤ natural_of stock c.args.steps.now.ratio piece =
          w.pass.ensures.at
          ∙ ap (λ (s : List Font). pen.at +ℤ natural_of s c.loop-piece.steps.ratio piece) c.loop-piece.invariant.stock
          ∙ ap (λ (r : ℤ). pen.at +ℤ natural_of stock r piece) c.loop-piece.invariant.ratio in
          let now = placing-pass setting pieces i glyph items piece pen w.pass.new.self is other kept at w.pass.ensures.given w.pass.ensures.shift
          w.pass.ensures.near_at w.pass.ensures.near_given (w.pass.ensures.near_shift kept.near_shift) in
          record {
            kept = moved setting pieces (i + 1) _ _ _ _ _ _ w.glyph-is (ap (λ (v : Vec Placed Global). v.items) w.glyphs-is) w.pen-is now;
            stock = ap (λ (s : Steps). s.stock.now) w.steps-is ∙ w.pass.ensures.stock ∙ c.loop-piece.invariant.stock;
            ratio = ap (λ (s : Steps). s.ratio) w.steps-is ∙ w.pass.ensures.ratio ∙ c.loop-piece.invariant.ratio;
          }
    ]

pub returns : goal.returns
returns c =
    let fits : FitsSigned w32 c.args.indent = search rules in
    places-all _ c.args.pieces.now c.loop-piece.piece-index c.loop-piece.glyph c.loop-piece.glyphs.items c.loop-piece-test.false
    (subst (λ (z : ℤ). IsPlacing (setting_with c.args.steps.now.stock.now c.args.steps.now.ratio c.args.set.now z) c.args.pieces.now c.loop-piece.piece-index c.loop-piece.glyph c.loop-piece.glyphs.items c.loop-piece.pen)
    (to_z-of_z w32 c.args.indent fits) c.loop-piece.invariant.kept).placed
