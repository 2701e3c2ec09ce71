use Rattle.std.proofs.Common.{◌≡◌, ◌++◌, drop}
use Rattle.std.specs.Prelude.{None}
use Rattle.hlist_runs.specs.Runs.{subs_of}
use Rattle.hlist_runs.proofs.subs.subs_of.Given as goal

abbrev pub invariant-loop-glyph : goal.invariant-loop-glyph
invariant-loop-glyph l =
    l.subs ++ subs_of l.number l.font.size l.codes l.before (drop l.glyph-index l.glyphs)
    ≡ subs_of l.number l.font.size l.codes None l.glyphs
