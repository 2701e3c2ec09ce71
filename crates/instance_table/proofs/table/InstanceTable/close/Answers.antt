use Rattle.std.proofs.Common.{rules, arith, ◌≡◌, ◌<◌, ℕ, sym, ap, ◌∙◌, subst, List, length, vec_len, All}
use Rattle.std.proofs.lemmas.List.Elements.{All-same, All-weaker}
use Rattle.instance_table.specs.declared.rule.Key.{Key}
use Rattle.instance_table.specs.declared.view.Claimed.{Claimed}
use Rattle.instance_table.specs.declared.view.View.{View}
use Rattle.instance_table.specs.Closing.{IsAlone, Closes}
use Rattle.instance_table.specs.Places.{cell_count}
use Rattle.instance_table.specs.Rule.{Rule}
use Rattle.instance_table.specs.Seats.{Standing}
use Rattle.instance_table.proofs.AloneLemmas.{claims_below_count}
use Rattle.instance_table.proofs.CloseLemmas.{closes}
use Rattle.instance_table.proofs.SatLemmas.{count_is}
use Rattle.instance_table.proofs.table.InstanceTable.close.Goals as goal

pub note-requires-clause-within : goal.note-requires-clause-within
note-requires-clause-within c =
    let key = c.self.inside.key in
    let t : Standing = record { id = c.self.inside.table.shared.table_id; bases = key.bases; draws = key.draws } in
    let v = c.seat.inside.place.me.0 in
    let last = c.close_with.ensures.values.2 in
    let rule : Rule key.bases key.draws last.0.words last.0.views =
    subst (λ (k : Key). Rule k.bases k.draws last.0.words last.0.views) c.self.invariant.0 last.1.0 in
    let below = claims_below_count t last.0.words last.0.views c.seat.inside.place.id v rule (last.1.1, c.seat.invariant.live)
    (ap (λ s. s.view.number) c.seat.view_is ∙ c.requires.first)
    (ap (λ s. s.view.building) c.seat.view_is ∙ c.requires.free)
    (subst IsAlone (sym (ap (λ s. s.view) c.seat.view_is)) c.requires.alone) in
    let count = count_is key.bases c.cell_count-cells.result c.cell_count-cells.ensures.exact in
    let room : vec_len c.in-Ok.room.builders ≡ cell_count key.bases = omega (arith, count, c.in-Ok.ensures.count) in
    let claims : c.as_slice.result.now ≡ v.claims = c.as_slice.ensures.value ∙ c.seat.invariant.claims_same in
    All-same (λ (e : Claimed). e.cell < vec_len c.in-Ok.room.builders) c.as_slice.result.now v.claims claims
    (All-weaker (λ (e : Claimed). e.cell < cell_count key.bases) (λ (e : Claimed). e.cell < vec_len c.in-Ok.room.builders)
    (λ e small. omega (arith, small, room)) v.claims below)

pub list_owners-requires-clause-cells : goal.list_owners-requires-clause-cells
list_owners-requires-clause-cells c =
    let count = count_is c.self.inside.key.bases c.cell_count-cells.result c.cell_count-cells.ensures.exact in
    omega (arith, count, c.in-Ok.ensures.count, c.note.ensures.length, c.as_slice-2.ensures.len)

pub returns-clause-closes : goal.returns-clause-closes
returns-clause-closes c =
    let key = c.self.inside.key in
    let t : Standing = record { id = c.self.inside.table.shared.table_id; bases = key.bases; draws = key.draws } in
    let v = c.seat.inside.place.me.0 in
    let last = c.close_with.ensures.values.2 in
    let rule : Rule key.bases key.draws last.0.words last.0.views =
    subst (λ (k : Key). Rule k.bases k.draws last.0.words last.0.views) c.self.invariant.0 last.1.0 in
    let first = ap (λ s. s.view.number) c.seat.view_is ∙ c.requires.first in
    let claims : c.as_slice.result.now ≡ v.claims = c.as_slice.ensures.value ∙ c.seat.invariant.claims_same in
    let count = count_is key.bases c.cell_count-cells.result c.cell_count-cells.ensures.exact in
    let told = closes t last.0.words last.0.views c.seat.inside.place.id v rule (last.1.1, c.seat.invariant.live)
    first (ap (λ s. s.view.building) c.seat.view_is ∙ c.requires.free)
    (subst IsAlone (sym (ap (λ s. s.view) c.seat.view_is)) c.requires.alone) c.is_in_range.ensures.each
    c.as_slice-2.result.now c.as_slice.result.now c.from_vec.result c.seat.inside.made claims (c.seat.invariant.made_same first)
    (search rules) (omega (arith, count, c.in-Ok.ensures.count, c.note.ensures.length, c.as_slice-2.ensures.len))
    (c.from_vec.ensures ∙ c.list_owners.ensures) in
    subst (λ (p : Standing × View). Closes p.0 p.1 (record { owners = c.from_vec.result; bases = key.bases; seats = c.seat.inside.made }))
    (λ i. (c.self.view_is i, ap (λ s. s.view) c.seat.view_is i)) told
