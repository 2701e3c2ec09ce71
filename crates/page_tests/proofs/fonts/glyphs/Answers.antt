use Rattle.std.proofs.Common.{◌∷◌, [], All, arith, subst, sym, ap, length, length-append}
use Rattle.std.proofs.lemmas.List.Elements.{All-push}
use Rattle.dvi_write.specs.Worked.{tiny10}
use Rattle.dvi_write.specs.Writable.{IsGlyphWritable}
use Rattle.page_tests.proofs.fonts.glyphs.Goals as goal

pub loop-step-preserved : goal.loop-step-preserved
loop-step-preserved c = record {
  writable =
      subst (All (IsGlyphWritable (tiny10 ∷ []))) (sym c.in_ok-push.ensures.items) (
      All-push (IsGlyphWritable (tiny10 ∷ [])) _ _ c.loop-step.invariant.writable c.glyph.ensures
      );
  count = omega (arith, ap length c.in_ok-push.ensures.items, length-append c.loop-step.glyphs.items (c.glyph.result ∷ []), c.loop-step.invariant.count);
}
