use Rattle.std.proofs.Common.{All, arith, subst, sym}
use Rattle.std.proofs.lemmas.List.Elements.{All-push}
use Rattle.page_bench.specs.Timed.{IsTimedGlyph}
use Rattle.page_bench.proofs.setting.put_word.Goals as goal

pub loop-letter-preserved : goal.loop-letter-preserved
loop-letter-preserved c = record {
  at = omega (arith, c.loop-letter.invariant.at);
  glyphs =
      subst (All IsTimedGlyph) (sym c.in_ok-push.ensures.items) (All-push IsTimedGlyph _ _ c.loop-letter.invariant.glyphs c.letter.ensures);
}
