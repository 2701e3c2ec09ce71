-- A list that has glyphs gives them.
use Rattle.std.proofs.Common.{inl, inr, refl}
use Rattle.lig_kern.specs.Covering.{Lawful}
use Rattle.hlist_runs.proofs.GlyphLemmas.{cuts-within}
use Rattle.hlist_build.proofs.RunLemmas.{list-ok, list-err}
use Rattle.hlist_build.proofs.runs.list_of.Goals as goal

pub subs_of-requires : goal.subs_of-requires
subs_of-requires c =
    let lawful : Lawful c.args.font.now.tfm c.args.entries.now c.run.new.self = rw c.tfm.ensures at c.in-Ok.ensures.lawful in
    rw c.glyphs.ensures record { own = lawful.own; within = cuts-within 0 _ _ lawful.cuts }

pub returns-in_ok-subs-in-Ok : goal.returns-in_ok-subs-in-Ok
returns-in_ok-subs-in-Ok c =
    let ends = rw c.tfm.ensures at c.in-Ok.ensures.outcome in
    let made = rw c.glyphs.ensures at c.in_ok-subs-in-Ok.ensures in
    let given = list-ok c.args.number c.args.font.now c.args.offset c.args.entries.now c.run.new.self ends in
    inl (rw (made, given) refl)

pub returns-in-Err : goal.returns-in-Err
returns-in-Err c =
    let ends = rw c.tfm.ensures at c.in-Err.ensures.outcome in
    elim (list-err c.args.number c.args.font.now c.args.offset c.args.entries.now c.in-Err.fault ends) [
      | inl is ↦ inl (rw (c.disc_fault.ensures, is) refl)
      | inr lost ↦ inr (rw (c.disc_fault.ensures, lost) refl)
    ]
