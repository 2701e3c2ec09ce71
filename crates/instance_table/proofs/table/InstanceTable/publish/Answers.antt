use Rattle.std.proofs.Common.{rules, arith, ◌≡◌, ◌≢◌, ◌+◌, ◌*◌, ◌%◌, ◌<◌, ℕ, sym, ap, ◌∙◌, subst, refl, List, Option, Some, eqb, Contains}
use Rattle.std.proofs.lemmas.List.Elements.{All-contains}
use mathlib.Core.Option.{none}
use prog.Atomic.{either}
use Rattle.atomic_table.specs.Table.{Allows, step}
use Rattle.instance_core.specs.declared.font.BaseFont.{BaseFont}
use Rattle.instance_table.proofs.Allowed.{holds, allows_claim, allows_store, allows_publish, allows_read, allows_draw}
use Rattle.instance_table.proofs.CallLemmas.{still_of, wins, claim_by_won, claim_by_lost, tried_is_won, tried_is_lost, tried_bases, tried_draws, one_stored, is_right, stored_fits, width_is, room_left, in_range}
use Rattle.instance_table.proofs.SatLemmas.{sat_won, sat_lost, sat_stored, sat_published, sat_read, sat_drew}
use Rattle.instance_table.specs.Places.{cell_count}
use Rattle.instance_table.specs.Plays.{Tries, Stores, Publishes, Reads, Draws}
use Rattle.instance_table.specs.Seats.{Wins, StoresOne, PublishesIt, ReadsWidth, DrawsOne}
use Rattle.instance_table.proofs.table.InstanceTable.publish.Goals as goal

pub store-requires : goal.store-requires
store-requires c =
    let shared = c.self.inside.table.shared in
    let place = c.seat.inside.place in
    let b = c.in-Some.building in
    let builds = sym c.seat.invariant.building_same ∙ c.in-Some.is in
    let whole = one_stored c.args.seat.now.view.building b 256 c.requires.whole (sym (ap (λ s. s.view.building) c.seat.view_is) ∙ builds) in
    let same = ap (λ s. s.view.bases) c.seat.view_is ∙ (c.requires.own.1 ∙ sym (ap (λ t. t.bases) c.self.view_is)) in
    let size = c.self.invariant.1 in
    let count = subst (λ (bs : List BaseFont). b.cell < cell_count bs) same (in_range place.me.0.bases place.me.0.building b builds c.seat.invariant.builds_cell) in (
      ap (λ s. s.table) c.seat.view_is ∙ (c.requires.own.0 ∙ sym (ap (λ t. t.id) c.self.view_is)),
      omega (arith, c.state_place-place.ensures),
      subst (λ (i : ℕ). Allows (holds shared.key.bases shared.key.draws) shared.table_id.slots place.id place.me i (λ _. 1) (λ _. Publishes (step shared.table_id.slots i 1 0 none) place.me 1))
          (sym c.state_place-place.ensures)
          (allows_publish shared.key.bases shared.key.draws shared.table_id.slots place.id b place.me c.seat.invariant.live builds whole),
    )

pub invariant_of-seat : goal.invariant_of-seat
invariant_of-seat c =
    let b = c.in-Some.building in
    let builds = sym c.seat.invariant.building_same ∙ c.in-Some.is in
    let told = c.store.ensures.2 b builds in
    sat_published c.seat.inside.place.me c.store.new.seat.me c.seat.inside.number c.seat.inside.made c.seat.inside.building c.seat.inside.claims.items _
    c.seat.invariant told.0 b builds told.1

pub returns-clause-own : goal.returns-clause-own
returns-clause-own c =
    let told = c.store.ensures.2 c.in-Some.building (sym c.seat.invariant.building_same ∙ c.in-Some.is) in
    still_of c.args.self.now c.args.seat.now c.seat.inside.place.table_id c.store.new.seat.table_id c.seat.inside.place.me.0 c.store.new.seat.me.0
    c.seat.view_is c.requires.own c.store.ensures.0 (ap (λ w. w.bases) told.1) (ap (λ w. w.draws) told.1)
