use Rattle.std.proofs.Common.{rules, arith, ◌≡◌, ◌≢◌, ◌+◌, ◌*◌, ◌%◌, ◌<◌, ℕ, sym, ap, ◌∙◌, subst, refl, List, Option, Some, eqb, Contains, w32, FitsSigned, ℤ}
use Rattle.std.proofs.lemmas.Int.{to_z-of_z}
use Rattle.std.proofs.lemmas.List.Elements.{All-contains}
use mathlib.Core.Option.{none}
use prog.Atomic.{either}
use Rattle.atomic_table.specs.Table.{Allows, step}
use Rattle.instance_core.specs.declared.font.BaseFont.{BaseFont}
use Rattle.instance_table.proofs.Allowed.{holds, allows_claim, allows_store, allows_publish, allows_read, allows_draw}
use Rattle.instance_table.proofs.CallLemmas.{still_of, wins, claim_by_won, claim_by_lost, tried_is_won, tried_is_lost, tried_bases, tried_draws, one_stored, is_right, stored_fits, width_is, room_left, in_range}
use Rattle.instance_table.proofs.SatLemmas.{sat_won, sat_lost, sat_stored, sat_published, sat_read, sat_drew}
use Rattle.instance_table.specs.Places.{cell_count}
use Rattle.instance_table.specs.Plays.{Tries, Stores, Publishes, Reads, Draws}
use Rattle.instance_table.specs.Seats.{Wins, StoresOne, PublishesIt, ReadsWidth, DrawsOne}
use Rattle.instance_table.proofs.table.InstanceTable.width.Goals as goal

pub load-word-requires : goal.load-word-requires
load-word-requires c =
    let shared = c.self.inside.table.shared in
    let place = c.seat.inside.place in
    let key = ap (λ k. k.bases) c.self.invariant.0 ∙ ap (λ t. t.bases) c.self.view_is in
    let same = ap (λ s. s.view.bases) c.seat.view_is ∙ (c.requires.own.1 ∙ sym key) in
    let inside = subst (λ (s : List ℕ). Contains s c.args.cell) (sym (ap (λ s. s.view.ready) c.seat.view_is)) c.requires.built in
    let size = c.self.invariant.1 in
    let count = subst (λ (bs : List BaseFont). c.args.cell < cell_count bs) (same ∙ ap (λ k. k.bases) c.self.invariant.0)
    (All-contains (λ k. k < cell_count place.me.0.bases) place.me.0.ready c.args.cell c.seat.invariant.ready_cells inside) in
    let small = c.ranges.code.fits in (
      ap (λ s. s.table) c.seat.view_is ∙ (c.requires.own.0 ∙ sym (ap (λ t. t.id) c.self.view_is)),
      omega (arith, c.width_place-place.ensures),
      subst (λ (i : ℕ). Allows (holds shared.key.bases shared.key.draws) shared.table_id.slots place.id place.me i (λ n. n) (Reads (step shared.table_id.slots i 0 0 none) place.me))
          (sym c.width_place-place.ensures)
          (allows_read shared.key.bases shared.key.draws shared.table_id.slots place.id c.args.cell c.args.code place.me c.seat.invariant.live same inside (omega arith)),
    )

pub loaded_width-requires : goal.loaded_width-requires
loaded_width-requires c =
    let inside = subst (λ (s : List ℕ). Contains s c.args.cell) (sym (ap (λ s. s.view.ready) c.seat.view_is)) c.requires.built in
    let few : c.args.code < 256 = omega (arith, c.ranges.code.fits) in
    let told = c.load-word.ensures.2 c.args.cell c.args.code c.width_place-place.ensures few inside in
    stored_fits c.seat.inside.place.me.0.bases c.args.cell c.args.code c.load-word.result told.2

pub invariant_of-seat : goal.invariant_of-seat
invariant_of-seat c =
    let inside = subst (λ (s : List ℕ). Contains s c.args.cell) (sym (ap (λ s. s.view.ready) c.seat.view_is)) c.requires.built in
    let few : c.args.code < 256 = omega (arith, c.ranges.code.fits) in
    let told = c.load-word.ensures.2 c.args.cell c.args.code c.width_place-place.ensures few inside in
    sat_read c.seat.inside.place.me c.load-word.new.seat.me c.seat.inside.number c.seat.inside.made c.seat.inside.building c.seat.inside.claims.items _
    c.seat.invariant told.0 c.args.cell c.args.code c.load-word.result told.1

pub returns-clause-own : goal.returns-clause-own
returns-clause-own c =
    let inside = subst (λ (s : List ℕ). Contains s c.args.cell) (sym (ap (λ s. s.view.ready) c.seat.view_is)) c.requires.built in
    let few : c.args.code < 256 = omega (arith, c.ranges.code.fits) in
    let told = c.load-word.ensures.2 c.args.cell c.args.code c.width_place-place.ensures few inside in
    still_of c.args.self.now c.args.seat.now c.seat.inside.place.table_id c.load-word.new.seat.table_id c.seat.inside.place.me.0 c.load-word.new.seat.me.0
    c.seat.view_is c.requires.own c.load-word.ensures.0 (ap (λ w. w.bases) told.1) (ap (λ w. w.draws) told.1)

pub returns-clause-width : goal.returns-clause-width
returns-clause-width c =
    let inside = subst (λ (s : List ℕ). Contains s c.args.cell) (sym (ap (λ s. s.view.ready) c.seat.view_is)) c.requires.built in
    let few : c.args.code < 256 = omega (arith, c.ranges.code.fits) in
    let told = c.load-word.ensures.2 c.args.cell c.args.code c.width_place-place.ensures few inside in
    let fits : FitsSigned w32 c.loaded_width.result = search rules in
    let same = ap (λ s. s.view.bases) c.seat.view_is ∙ c.requires.own.1 in
    to_z-of_z w32 c.loaded_width.result fits
    ∙ width_is c.seat.inside.place.me.0.bases c.args.self.now.bases c.args.cell c.args.code c.load-word.result c.loaded_width.result told.2 same c.loaded_width.ensures

pub returns-clause-reads : goal.returns-clause-reads
returns-clause-reads c =
    let inside = subst (λ (s : List ℕ). Contains s c.args.cell) (sym (ap (λ s. s.view.ready) c.seat.view_is)) c.requires.built in
    let few : c.args.code < 256 = omega (arith, c.ranges.code.fits) in
    let told = c.load-word.ensures.2 c.args.cell c.args.code c.width_place-place.ensures few inside in
    let fits : FitsSigned w32 c.loaded_width.result = search rules in
    subst (λ (z : ℤ). ReadsWidth c.args.seat.now.view c.args.cell c.args.code z c.load-word.new.seat.me.0) (sym (to_z-of_z w32 c.loaded_width.result fits))
    (subst (λ s. ReadsWidth s.view c.args.cell c.args.code c.loaded_width.result c.load-word.new.seat.me.0) c.seat.view_is record {
      word = c.load-word.result;
      view = told.1;
      by_word = c.loaded_width.ensures;
    })
