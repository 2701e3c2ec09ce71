-- The run's end, and its glyphs as a list.
use Rattle.std.proofs.lemmas.List.Elements.{All-same}
use Rattle.hlist_runs.specs.Within.{IsWithin}
use Rattle.hlist_runs.proofs.EndLemmas.{list-ok, list-err}
use Rattle.hlist_runs.proofs.GlyphLemmas.{cuts-within}
use Rattle.std.proofs.Common.{length}
use Rattle.hlist_runs.proofs.running.run_subs.Goals as goal

pub subs_of-requires-clause-within : goal.subs_of-requires-clause-within
subs_of-requires-clause-within c =
    All-same (IsWithin (length c.args.codes.now)) _ _ c.as_slice.ensures
    (cuts-within 0 (length c.args.codes.now) c.in-Ok.glyphs c.in-Ok.ensures.lawful.cuts)

pub returns-in_ok-subs-in-Ok : goal.returns-in_ok-subs-in-Ok
returns-in_ok-subs-in-Ok c =
    list-ok c.args.number c.args.font.now.tfm c.args.font.now.size c.args.codes.now c.args.left c.args.right
    c.in-Ok.glyphs c.in_ok-subs-in-Ok.subs
    (rw c.tfm.ensures at c.in-Ok.ensures.outcome) (rw c.as_slice.ensures at c.in_ok-subs-in-Ok.ensures)

pub returns-in-Err : goal.returns-in-Err
returns-in-Err c =
    list-err c.args.number c.args.font.now.tfm c.args.font.now.size c.args.codes.now c.args.left c.args.right
    c.in-Err.fault (rw c.tfm.ensures at c.in-Err.ensures.outcome)
