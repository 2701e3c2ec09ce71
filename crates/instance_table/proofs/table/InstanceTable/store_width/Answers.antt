use Rattle.std.proofs.Common.{rules, arith, ◌≡◌, ◌≢◌, ◌+◌, ◌*◌, ◌%◌, ◌<◌, ℕ, sym, ap, ◌∙◌, subst, refl, List, Option, Some, eqb, Contains, w32, FitsSigned}
use Rattle.std.proofs.lemmas.Int.{to_z-of_z}
use Rattle.std.proofs.lemmas.List.Elements.{All-contains}
use mathlib.Core.Option.{none}
use prog.Atomic.{either}
use Rattle.atomic_table.specs.Table.{Allows, step}
use Rattle.instance_core.specs.declared.font.BaseFont.{BaseFont}
use Rattle.instance_table.proofs.Allowed.{holds, allows_claim, allows_store, allows_publish, allows_read, allows_draw}
use Rattle.instance_table.proofs.CallLemmas.{still_of, wins, claim_by_won, claim_by_lost, tried_is_won, tried_is_lost, tried_bases, tried_draws, one_stored, is_right, stored_fits, width_is, room_left, in_range}
use Rattle.instance_table.proofs.SatLemmas.{sat_won, sat_lost, sat_stored, sat_published, sat_read, sat_drew}
use Rattle.instance_table.specs.Places.{cell_count}
use Rattle.instance_table.specs.Plays.{Tries, Stores, Publishes, Reads, Draws}
use Rattle.instance_table.specs.Seats.{Wins, StoresOne, PublishesIt, ReadsWidth, DrawsOne}
use Rattle.instance_table.proofs.table.InstanceTable.store_width.Goals as goal

pub cell_width-requires : goal.cell_width-requires
cell_width-requires c =
    let place = c.seat.inside.place in
    let b = c.in-Some.building in
    let builds = sym c.seat.invariant.building_same ∙ c.in-Some.is in
    let same = ap (λ s. s.view.bases) c.seat.view_is ∙ (c.requires.own.1 ∙ sym (ap (λ t. t.bases) c.self.view_is)) in
    subst (λ (bs : List BaseFont). b.cell < cell_count bs) same (in_range place.me.0.bases place.me.0.building b builds c.seat.invariant.builds_cell)

pub store-requires : goal.store-requires
store-requires c =
    let shared = c.self.inside.table.shared in
    let place = c.seat.inside.place in
    let b = c.in-Some.building in
    let builds = sym c.seat.invariant.building_same ∙ c.in-Some.is in
    let next = one_stored c.args.seat.now.view.building b c.args.code c.requires.next (sym (ap (λ s. s.view.building) c.seat.view_is) ∙ builds) in
    let same = ap (λ s. s.view.bases) c.seat.view_is ∙ (c.requires.own.1 ∙ sym (ap (λ t. t.bases) c.self.view_is)) in
    let size = c.self.invariant.1 in
    let count = subst (λ (bs : List BaseFont). b.cell < cell_count bs) same (in_range place.me.0.bases place.me.0.building b builds c.seat.invariant.builds_cell) in
    let word = c.stored_word-word.result in
    let fits : FitsSigned w32 c.cell_width.result = search rules in
    let right = is_right shared.key.bases c.self.inside.key.bases b.cell c.args.code b.stored word _
    c.stored_word-word.ensures.fits c.stored_word-word.ensures.exact (to_z-of_z w32 c.cell_width.result fits ∙ c.cell_width.ensures) (ap (λ k. k.bases) c.self.invariant.0) next in
    let at : c.width_place-place.result ≡ 2 + 257 * b.cell + b.stored = omega (arith, c.width_place-place.ensures, next) in
    let small = c.ranges.code.fits in (
      ap (λ s. s.table) c.seat.view_is ∙ (c.requires.own.0 ∙ sym (ap (λ t. t.id) c.self.view_is)),
      omega (arith, at),
      subst (λ (i : ℕ). Allows (holds shared.key.bases shared.key.draws) shared.table_id.slots place.id place.me i (λ _. word) (λ _. Stores (step shared.table_id.slots i word 0 none) place.me word))
          (sym at)
          (allows_store shared.key.bases shared.key.draws shared.table_id.slots place.id word b place.me c.seat.invariant.live builds (omega arith) right),
    )
