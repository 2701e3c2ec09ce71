-- One more code of the run is in the list, or the run ends.
use Rattle.std.proofs.Common.{[], ◌∷◌, arith, rules}
use Rattle.hlist_runs.proofs.GlyphLemmas.{longer, whole}
use Rattle.hlist_build.proofs.PartLemmas.{run_codes-turn, run_codes-stop, run_codes-end, not_char}
use Rattle.hlist_build.proofs.building.run_codes.Goals as goal

pub loop-one-preserved : goal.loop-one-preserved
loop-one-preserved c =
    longer _ c.loop-one.codes.items (c.in-Char.code ∷ []) _ _ _ (search rules)
    (run_codes-turn c.args.parts.now c.loop-one.one-index c.one-item.result c.in-Char.code (omega arith) c.one-item.is c.in-Char.is)
    c.loop-one.invariant

pub returns-in_default : goal.returns-in_default
returns-in_default c =
    whole _ _ _
    (run_codes-stop c.args.parts.now c.loop-one.one-index c.one-item.result (omega arith) c.one-item.is
    (not_char c.one-item.result.part c.in_default.not-Char))
    c.loop-one.invariant

pub returns : goal.returns
returns c =
    whole _ _ _ (run_codes-end c.args.parts.now c.loop-one.one-index (omega arith)) c.loop-one.invariant
