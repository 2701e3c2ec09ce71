use Rattle.std.proofs.Common.{◌≡◌, ◌++◌, drop}
use Rattle.std.specs.Prelude.{None}
use Rattle.hlist_build.specs.Runs.{run_items}
use Rattle.hlist_build.proofs.glyphs.push_glyphs.Given as goal

abbrev pub invariant-loop-glyph : goal.invariant-loop-glyph
invariant-loop-glyph l =
    l.list ++ run_items l.number l.font.size l.font.codes.hyphen l.codes l.before (drop l.glyph-index l.glyphs)
    ≡ l.fn.list ++ run_items l.number l.font.size l.font.codes.hyphen l.codes None l.glyphs
