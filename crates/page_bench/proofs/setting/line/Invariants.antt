use Rattle.std.proofs.Common.{◌≤◌, ◌*◌, All}
use Rattle.page_bench.specs.Timed.{IsTimedGlyph}
use Rattle.page_bench.proofs.setting.line.Given as goal

abbrev pub invariant-loop-word : goal.invariant-loop-word
invariant-loop-word l = record {
  at : l.x ≤ l._word * 3167573;
  glyphs : All IsTimedGlyph l.glyphs.items;
}
