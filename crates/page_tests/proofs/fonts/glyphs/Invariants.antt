use Rattle.std.proofs.Common.{◌≡◌, ◌∷◌, [], All, length}
use Rattle.dvi_write.specs.Worked.{tiny10}
use Rattle.dvi_write.specs.Writable.{IsGlyphWritable}
use Rattle.page_tests.proofs.fonts.glyphs.Given as goal

abbrev pub invariant-loop-step : goal.invariant-loop-step
invariant-loop-step l = record {
  writable : All (IsGlyphWritable (tiny10 ∷ [])) l.glyphs.items;
  count : length l.glyphs.items ≡ l.step;
}
