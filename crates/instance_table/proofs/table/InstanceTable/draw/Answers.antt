use Rattle.std.proofs.Common.{rules, arith, ◌≡◌, ◌≢◌, ◌+◌, ◌*◌, ◌%◌, ◌<◌, ℕ, sym, ap, ◌∙◌, subst, refl, List, Option, Some, eqb, Contains}
use Rattle.std.proofs.lemmas.List.Elements.{All-contains}
use mathlib.Core.Option.{none}
use prog.Atomic.{either}
use Rattle.atomic_table.specs.Table.{Allows, step}
use Rattle.instance_core.specs.declared.font.BaseFont.{BaseFont}
use Rattle.instance_table.proofs.Allowed.{holds, allows_claim, allows_store, allows_publish, allows_read, allows_draw}
use Rattle.instance_table.proofs.CallLemmas.{still_of, wins, claim_by_won, claim_by_lost, tried_is_won, tried_is_lost, tried_bases, tried_draws, one_stored, is_right, stored_fits, width_is, room_left, in_range}
use Rattle.instance_table.proofs.SatLemmas.{sat_won, sat_lost, sat_stored, sat_published, sat_read, sat_drew}
use Rattle.instance_table.specs.Places.{cell_count}
use Rattle.instance_table.specs.Plays.{Tries, Stores, Publishes, Reads, Draws}
use Rattle.instance_table.specs.Seats.{Wins, StoresOne, PublishesIt, ReadsWidth, DrawsOne}
use Rattle.instance_table.proofs.table.InstanceTable.draw.Goals as goal

pub fetch_add-draw-requires : goal.fetch_add-draw-requires
fetch_add-draw-requires c =
    let shared = c.self.inside.table.shared in
    let place = c.seat.inside.place in
    let size = c.self.invariant.1 in
    let going = ap (λ s. s.view.ended) c.seat.view_is ∙ c.requires.going in (
      ap (λ s. s.table) c.seat.view_is ∙ (c.requires.own.0 ∙ sym (ap (λ t. t.id) c.self.view_is)),
      omega arith,
      allows_draw shared.key.bases shared.key.draws shared.table_id.slots place.id place.me c.seat.invariant.live going,
    )
