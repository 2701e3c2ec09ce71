use Rattle.std.proofs.Common.{◌≡◌, ◌+◌, ◌*◌, All}
use Rattle.page_bench.specs.Timed.{IsTimedGlyph}
use Rattle.page_bench.proofs.setting.put_word.Given as goal

abbrev pub invariant-loop-letter : goal.invariant-loop-letter
invariant-loop-letter l = record {
  at : l.x ≡ l.initial.from + l._letter * 327680;
  glyphs : All IsTimedGlyph l.glyphs.items;
}
