use Rattle.std.proofs.Common.{rules, arith, ◌≡◌, ◌≢◌, ◌+◌, ◌*◌, ◌%◌, ◌<◌, ℕ, sym, ap, ◌∙◌, subst, refl, List, Option, Some, eqb, Contains}
use Rattle.std.proofs.lemmas.List.Elements.{All-contains}
use mathlib.Core.Option.{none}
use prog.Atomic.{either}
use Rattle.atomic_table.specs.Table.{Allows, step}
use Rattle.instance_core.specs.declared.font.BaseFont.{BaseFont}
use Rattle.instance_table.proofs.Allowed.{holds, allows_claim, allows_store, allows_publish, allows_read, allows_draw}
use Rattle.instance_table.proofs.CallLemmas.{still_of, wins, claim_by_won, claim_by_lost, tried_is_won, tried_is_lost, tried_bases, tried_draws, one_stored, is_right, stored_fits, width_is, room_left, in_range}
use Rattle.instance_table.proofs.SatLemmas.{sat_won, sat_lost, sat_stored, sat_published, sat_read, sat_drew}
use Rattle.instance_table.specs.Places.{cell_count}
use Rattle.instance_table.specs.Plays.{Tries, Stores, Publishes, Reads, Draws}
use Rattle.instance_table.specs.Seats.{Wins, StoresOne, PublishesIt, ReadsWidth, DrawsOne}
use Rattle.instance_table.specs.declared.answers.Claim.TheVariants.{Won, Lost}
use Rattle.instance_table.proofs.table.InstanceTable.claim.Goals as goal

pub compare_exchange-word-requires : goal.compare_exchange-word-requires
compare_exchange-word-requires c =
    let shared = c.self.inside.table.shared in
    let place = c.seat.inside.place in
    let key = ap (λ k. k.bases) c.self.invariant.0 ∙ ap (λ t. t.bases) c.self.view_is in
    let within = subst (λ (bs : List BaseFont). c.args.cell < cell_count bs) (sym key) c.requires.within in
    let free = ap (λ s. s.view.building) c.seat.view_is ∙ c.requires.free in
    let same = ap (λ s. s.view.bases) c.seat.view_is ∙ (c.requires.own.1 ∙ sym key) in
    let size = c.self.invariant.1 in
    let count = subst (λ (bs : List BaseFont). c.args.cell < cell_count bs) (sym (ap (λ t. t.bases) c.self.view_is)) c.requires.within in
    let mine : c.seat.inside.number + 2 ≡ place.me.0.number + 2 = ap (λ k. k + 2) c.seat.invariant.number_same in (
      ap (λ s. s.table) c.seat.view_is ∙ (c.requires.own.0 ∙ sym (ap (λ t. t.id) c.self.view_is)),
      omega (arith, c.state_place.ensures),
      subst (λ (i : ℕ). Allows (holds shared.key.bases shared.key.draws) shared.table_id.slots place.id place.me i (λ n. either (eqb n 0) (c.seat.inside.number + 2) n) (Tries (step shared.table_id.slots i 0 (c.seat.inside.number + 2) none) place.me))
          (sym c.state_place.ensures)
          (allows_claim shared.key.bases shared.key.draws shared.table_id.slots place.id c.args.cell (c.seat.inside.number + 2) place.me c.seat.invariant.live free within same mine),
    )

pub invariant_of-seat : goal.invariant_of-seat
invariant_of-seat c =
    let told = c.compare_exchange-word.ensures.2 c.args.cell c.state_place.ensures in
    let same = ap (λ s. s.view.bases) c.seat.view_is ∙ c.requires.own.1 in
    let count = subst (λ (bs : List BaseFont). c.args.cell < cell_count bs) (sym same) c.requires.within in
    sat_lost c.seat.inside.place.me c.compare_exchange-word.new.seat.me c.seat.inside.number c.seat.inside.made c.seat.inside.building c.seat.inside.claims.items _
    c.seat.invariant told.0 c.args.cell c.compare_exchange-word.result
    (told.1 ∙ tried_is_lost c.seat.inside.place.me.0 c.args.cell c.compare_exchange-word.result c.if-word-ne0.true) count

pub returns-then-word-ne0-clause-own : goal.returns-then-word-ne0-clause-own
returns-then-word-ne0-clause-own c =
    let told = c.compare_exchange-word.ensures.2 c.args.cell c.state_place.ensures in
    still_of c.args.self.now c.args.seat.now c.seat.inside.place.table_id c.compare_exchange-word.new.seat.table_id c.seat.inside.place.me.0 c.compare_exchange-word.new.seat.me.0
    c.seat.view_is c.requires.own c.compare_exchange-word.ensures.0
    (ap (λ w. w.bases) told.1 ∙ tried_bases c.seat.inside.place.me.0 c.args.cell c.compare_exchange-word.result)
    (ap (λ w. w.draws) told.1 ∙ tried_draws c.seat.inside.place.me.0 c.args.cell c.compare_exchange-word.result)

pub returns-then-word-ne0-clause-wins : goal.returns-then-word-ne0-clause-wins
returns-then-word-ne0-clause-wins c =
    let told = c.compare_exchange-word.ensures.2 c.args.cell c.state_place.ensures in
    subst (λ s. Wins s.view c.args.cell (Lost c.compare_exchange-word.result) c.compare_exchange-word.new.seat.me.0) c.seat.view_is
    (wins c.seat.inside.place.me.0 c.compare_exchange-word.new.seat.me.0 c.args.cell c.compare_exchange-word.result (Lost c.compare_exchange-word.result) told.1 told.2 (claim_by_lost c.compare_exchange-word.result c.if-word-ne0.true))

pub push_reserved-requires : goal.push_reserved-requires
push_reserved-requires c =
    let told = c.compare_exchange-word.ensures.2 c.args.cell c.state_place.ensures in
    let left = room_left c.seat.inside.place.me.0 c.compare_exchange-word.new.seat.me.0 c.args.cell c.compare_exchange-word.result _ c.seat.inside.claims.items
    told.1 c.if-word-ne0.false told.3 c.seat.invariant.claims_same c.seat.invariant.room_for_all in
    omega (arith, left, c.seat.inside.claims.ok.0)
