-- One more character of the run is in the list.
use Rattle.std.proofs.Common.{arith}
use Rattle.hlist_runs.proofs.GlyphLemmas.{longer, whole}
use Rattle.hlist_build.proofs.GlyphLemmas.{plain-turn, plain-end}
use Rattle.hlist_build.proofs.glyphs.push_plain.Goals as goal

pub loop-code-preserved : goal.loop-code-preserved
loop-code-preserved c =
    longer _ _ _ _ _ _ c.in_ok-push_char.ensures
    (plain-turn c.args.number c.args.font.now.size c.args.font.now.codes.hyphen c.args.codes.now c.loop-code.code-index 0 (omega arith))
    c.loop-code.invariant

pub returns : goal.returns
returns c =
    whole _ _ _
    (plain-end c.args.number c.args.font.now.size c.args.font.now.codes.hyphen c.args.codes.now c.loop-code.code-index (omega arith))
    c.loop-code.invariant
