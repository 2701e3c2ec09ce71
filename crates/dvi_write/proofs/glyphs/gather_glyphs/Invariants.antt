use Rattle.std.proofs.Common.{◌≡◌, ◌≤◌, pos, drop, map, take}
use Rattle.instance_core.specs.declared.page.Placed.{Placed}
use Rattle.dvi_write.specs.Output.{grown}
use Rattle.dvi_write.specs.Writing.{glyphs_bytes, fonts_after}
use Rattle.dvi_write.specs.Writable.{IsPlace}
use Rattle.dvi_write.proofs.glyphs.gather_glyphs.Given as goal

-- what is written and gathered, with what is left, is the whole
abbrev pub invariant-loop-glyph : goal.invariant-loop-glyph
invariant-loop-glyph l = record {
  within : IsPlace l.h;
  room : l.count ≤ 64;
  bytes : grown (grown l.out (take l.count l.gathered)) (glyphs_bytes l.rows l.numbering l.fonts l.h (drop l.glyph-index l.glyphs)) ≡ grown l.initial.out (glyphs_bytes l.rows l.numbering l.initial.fonts (pos 0) l.glyphs);
  after : fonts_after l.numbering l.fonts (map (λ (g : Placed). g.cell) (drop l.glyph-index l.glyphs)) ≡ fonts_after l.numbering l.initial.fonts (map (λ (g : Placed). g.cell) l.glyphs);
}
