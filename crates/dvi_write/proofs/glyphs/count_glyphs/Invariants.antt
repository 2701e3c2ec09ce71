use Rattle.std.proofs.Common.{◌≡◌, ◌≤◌, ◌+◌, ◌*◌, false, length, pos, drop, map}
use Rattle.instance_core.specs.declared.page.Placed.{Placed}
use Rattle.dvi_write.specs.Writing.{glyphs_bytes, fonts_after}
use Rattle.dvi_write.specs.Writable.{IsPlace}
use Rattle.dvi_write.proofs.glyphs.count_glyphs.Given as goal

-- what is counted, with what is left, is the whole
abbrev pub invariant-loop-glyph : goal.invariant-loop-glyph
invariant-loop-glyph l = record {
  within : IsPlace l.h;
  few : l.counted ≤ 7 * l.glyph-index;
  kept : l.out.kept ≡ false;
  bytes : l.out.bytes ≡ l.initial.out.bytes;
  count : l.out.length + l.counted + length (glyphs_bytes l.rows l.numbering l.fonts l.h (drop l.glyph-index l.glyphs)) ≡ l.initial.out.length + length (glyphs_bytes l.rows l.numbering l.initial.fonts (pos 0) l.glyphs);
  after : fonts_after l.numbering l.fonts (map (λ (g : Placed). g.cell) (drop l.glyph-index l.glyphs)) ≡ fonts_after l.numbering l.initial.fonts (map (λ (g : Placed). g.cell) l.glyphs);
}
