-- One more glyph of the run is in the list.
use Rattle.std.proofs.Common.{arith}
use Rattle.lig_kern.specs.declared.glyph.Glyph.TheVariants.{Char}
use Rattle.hlist_runs.proofs.GlyphLemmas.{longer, whole}
use Rattle.hlist_build.proofs.GlyphLemmas.{run_items-turn, run_items-end}
use Rattle.hlist_build.proofs.glyphs.push_glyphs.Goals as goal

pub loop-glyph-preserved : goal.loop-glyph-preserved
loop-glyph-preserved c =
    longer _ _ _ _ _ _ c.in_ok-push_glyph.ensures
    (run_items-turn c.args.number c.args.font.now.size c.args.font.now.codes.hyphen c.args.codes.now c.loop-glyph.before c.args.glyphs.now c.loop-glyph.glyph-index (Char 0 0) (omega arith))
    c.loop-glyph.invariant

pub returns : goal.returns
returns c =
    whole _ _ _
    (run_items-end c.args.number c.args.font.now.size c.args.font.now.codes.hyphen c.args.codes.now c.loop-glyph.before c.args.glyphs.now c.loop-glyph.glyph-index (omega arith))
    c.loop-glyph.invariant
