use Rattle.std.proofs.Common.{rules, arith, ◌≡◌, ◌+◌, ◌<◌, ℕ, sym, ap, ◌∙◌, subst, List}
use Rattle.instance_table.specs.declared.view.View.{View}
use Rattle.instance_table.proofs.Allowed.{allows_learn, allows_join}
use Rattle.instance_table.proofs.CallLemmas.{still_of, carried, room_for_both}
use Rattle.instance_table.proofs.SatLemmas.{sat_joined}
use Rattle.instance_table.specs.Plays.{IsKnown}
use Rattle.instance_table.specs.Seats.{IsCarried}
use Rattle.instance_table.specs.Steps.{joined_with}
use Rattle.instance_table.proofs.table.InstanceTable.join.Goals as goal

pub load-requires : goal.load-requires
load-requires c =
    let shared = c.self.inside.table.shared in
    let place = c.other.inside.place in
    let size = c.self.invariant.1 in (
      ap (λ s. s.table) c.other.view_is ∙ (c.requires.other.0 ∙ sym (ap (λ t. t.id) c.self.view_is)),
      omega arith,
      allows_learn shared.key.bases shared.key.draws shared.table_id.slots place.id place.me c.other.invariant.live,
    )

pub join_seat-requires : goal.join_seat-requires
join_seat-requires c =
    let shared = c.self.inside.table.shared in
    let size = c.self.invariant.1 in
    let told = c.load.ensures.2.0 in (
      ap (λ s. s.table) c.seat.view_is ∙ (c.requires.own.0 ∙ sym (ap (λ t. t.id) c.self.view_is)),
      c.load.ensures.0 ∙ (ap (λ s. s.table) c.other.view_is ∙ (c.requires.other.0 ∙ sym (ap (λ t. t.id) c.self.view_is))),
      ap (λ m. m.1) told ∙ c.other.invariant.no_slot,
      omega arith,
      allows_join shared.key.bases shared.key.draws c.seat.inside.place.id c.seat.inside.place.me.0 c.load.new.seat.id c.load.new.seat.me.0
          c.seat.invariant.live (ap (λ m. m.0.spent) told ∙ c.other.invariant.live)
          (ap (λ s. s.view.number) c.seat.view_is ∙ c.requires.first)
          (ap (λ s. s.view.building) c.seat.view_is ∙ c.requires.free)
          (ap (λ m. m.0.building) told ∙ (ap (λ s. s.view.building) c.other.view_is ∙ c.requires.other_free)),
    )

pub load-requires-2 : goal.load-requires-2
load-requires-2 c =
    let shared = c.self.inside.table.shared in
    let size = c.self.invariant.1 in (
      c.join_seat.ensures.0 ∙ (ap (λ s. s.table) c.seat.view_is ∙ (c.requires.own.0 ∙ sym (ap (λ t. t.id) c.self.view_is))),
      omega arith,
      allows_learn shared.key.bases shared.key.draws shared.table_id.slots c.join_seat.new.seat.id c.join_seat.new.seat.me
          (ap (λ m. m.0.spent) c.join_seat.ensures.2 ∙ c.seat.invariant.live),
    )

pub take_in-requires : goal.take_in-requires
take_in-requires c =
    let both = ap (λ m. m.0) c.join_seat.ensures.2 ∙ ap (λ m. joined_with c.seat.inside.place.me.0 m.0) c.load.ensures.2.0 in
    let known = subst IsKnown both c.load-2.ensures.2.1 in
    let fits = room_for_both c.seat.inside.place.me.0 c.other.inside.place.me.0 c.seat.inside.claims.items c.other.inside.claims.items _
    c.seat.invariant.claims_same c.other.invariant.claims_same known.few_claims c.seat.invariant.room_for_all in
    omega (arith, fits, c.seat.inside.claims.ok.0, c.other.inside.claims.ok.0)

pub invariant_of-seat : goal.invariant_of-seat
invariant_of-seat c =
    let is = c.load-2.ensures.2.0
    ∙ (c.join_seat.ensures.2 ∙ ap (λ m. (joined_with c.seat.inside.place.me.0 m.0, c.seat.inside.place.me.1)) c.load.ensures.2.0) in
    let same = ap (λ s. s.view.bases) c.other.view_is
    ∙ (c.requires.other.1 ∙ (sym c.requires.own.1 ∙ sym (ap (λ s. s.view.bases) c.seat.view_is))) in
    sat_joined c.seat.inside.place.me c.load-2.new.seat.me c.other.inside.place.me.0 c.seat.inside.number c.seat.inside.made _ _ c.seat.inside.building
    c.seat.inside.claims.items c.other.inside.claims.items c.take_in.new.claims.items c.seat.invariant is same c.other.invariant.ready_cells
    c.other.invariant.claims_same c.take_in.ensures.items c.take_in.ensures.capacity

pub returns-clause-own : goal.returns-clause-own
returns-clause-own c =
    let both = ap (λ m. m.0) c.join_seat.ensures.2 ∙ ap (λ m. joined_with c.seat.inside.place.me.0 m.0) c.load.ensures.2.0 in
    let new = ap (λ m. m.0) c.load-2.ensures.2.0 ∙ both in
    still_of c.args.self.now c.args.seat.now c.seat.inside.place.table_id c.load-2.new.seat.table_id c.seat.inside.place.me.0 c.load-2.new.seat.me.0
    c.seat.view_is c.requires.own (c.load-2.ensures.0 ∙ c.join_seat.ensures.0) (ap (λ w. w.bases) new) (ap (λ w. w.draws) new)

pub returns-clause-view : goal.returns-clause-view
returns-clause-view c =
    let both = ap (λ m. m.0) c.join_seat.ensures.2 ∙ ap (λ m. joined_with c.seat.inside.place.me.0 m.0) c.load.ensures.2.0 in
    (ap (λ m. m.0) c.load-2.ensures.2.0 ∙ both)
    ∙ (ap (λ s. joined_with s.view c.other.inside.place.me.0) c.seat.view_is ∙ ap (λ s. joined_with c.args.seat.now.view s.view) c.other.view_is)

pub returns-clause-carried : goal.returns-clause-carried
returns-clause-carried c =
    let both = ap (λ m. m.0) c.join_seat.ensures.2 ∙ ap (λ m. joined_with c.seat.inside.place.me.0 m.0) c.load.ensures.2.0 in
    let new = ap (λ m. m.0) c.load-2.ensures.2.0 ∙ both in
    let known = subst IsKnown both c.load-2.ensures.2.1 in
    let brings = carried c.seat.inside.place.me.0 c.other.inside.place.me.0 c.other.invariant.live
    (ap (λ s. s.view.number) c.seat.view_is ∙ c.requires.first) c.load.ensures.2.1 known in
    subst (λ (p : View × View). IsCarried p.0 p.1) (λ i. (ap (λ s. s.view) c.other.view_is i, sym new i)) brings
