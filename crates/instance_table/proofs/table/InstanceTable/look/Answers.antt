use Rattle.std.proofs.Common.{rules, arith, ◌≡◌, ◌<◌, ℕ, sym, ap, ◌∙◌, subst, refl, List}
use mathlib.Core.Option.{none}
use Rattle.atomic_table.specs.Table.{Allows, step}
use Rattle.instance_core.specs.declared.font.BaseFont.{BaseFont}
use Rattle.instance_table.proofs.Allowed.{allows_look, holds}
use Rattle.instance_table.proofs.CallLemmas.{still_of, finds}
use Rattle.instance_table.proofs.SatLemmas.{sat_looked}
use Rattle.instance_table.specs.Places.{cell_count}
use Rattle.instance_table.specs.Plays.{Looks}
use Rattle.instance_table.specs.Seats.{Finds}
use Rattle.instance_table.proofs.table.InstanceTable.look.Goals as goal

pub load-word-requires : goal.load-word-requires
load-word-requires c =
    let shared = c.self.inside.table.shared in
    let place = c.seat.inside.place in
    let key = ap (λ k. k.bases) c.self.invariant.0 ∙ ap (λ t. t.bases) c.self.view_is in
    let within = subst (λ (bs : List BaseFont). c.args.cell < cell_count bs) (sym key) c.requires.within in
    let free = ap (λ s. s.view.building) c.seat.view_is ∙ c.requires.free in
    let size = c.self.invariant.1 in
    let count = subst (λ (bs : List BaseFont). c.args.cell < cell_count bs) (sym (ap (λ t. t.bases) c.self.view_is)) c.requires.within in (
      ap (λ s. s.table) c.seat.view_is ∙ (c.requires.own.0 ∙ sym (ap (λ t. t.id) c.self.view_is)),
      omega (arith, c.state_place.ensures),
      subst (λ (i : ℕ). Allows (holds shared.key.bases shared.key.draws) shared.table_id.slots place.id place.me i (λ n. n) (Looks (step shared.table_id.slots i 0 0 none) place.me))
          (sym c.state_place.ensures)
          (allows_look shared.key.bases shared.key.draws shared.table_id.slots place.id c.args.cell place.me c.seat.invariant.live free within),
    )

pub invariant_of-seat : goal.invariant_of-seat
invariant_of-seat c =
    let told = c.load-word.ensures.2 c.args.cell c.state_place.ensures in
    let same = ap (λ s. s.view.bases) c.seat.view_is ∙ c.requires.own.1 in
    let count = subst (λ (bs : List BaseFont). c.args.cell < cell_count bs) (sym same) c.requires.within in
    sat_looked c.seat.inside.place.me c.load-word.new.seat.me c.seat.inside.number c.seat.inside.made c.seat.inside.building c.seat.inside.claims.items _
    c.seat.invariant told.0 c.args.cell c.load-word.result told.1 count

pub returns-clause-own : goal.returns-clause-own
returns-clause-own c =
    let told = c.load-word.ensures.2 c.args.cell c.state_place.ensures in
    still_of c.args.self.now c.args.seat.now c.seat.inside.place.table_id c.load-word.new.seat.table_id c.seat.inside.place.me.0 c.load-word.new.seat.me.0
    c.seat.view_is c.requires.own c.load-word.ensures.0 (ap (λ w. w.bases) told.1) (ap (λ w. w.draws) told.1)

pub returns-clause-finds : goal.returns-clause-finds
returns-clause-finds c =
    let told = c.load-word.ensures.2 c.args.cell c.state_place.ensures in
    subst (λ s. Finds s.view c.args.cell c.seen_by.result c.load-word.new.seat.me.0) c.seat.view_is
    (finds c.seat.inside.place.me.0 c.load-word.new.seat.me.0 c.args.cell c.load-word.result c.seen_by.result told.1 told.2 c.seen_by.ensures)
