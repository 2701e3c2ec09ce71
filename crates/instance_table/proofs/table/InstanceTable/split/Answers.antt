use Rattle.std.proofs.Common.{rules, arith, ◌≡◌, ◌+◌, ◌<◌, ℕ, sym, ap, ◌∙◌, subst, inl}
use Rattle.instance_table.proofs.Allowed.{allows_split}
use Rattle.instance_table.proofs.SatLemmas.{count_is, sat_new, sat_split}
use Rattle.instance_table.specs.Places.{cell_count}
use Rattle.instance_table.proofs.table.InstanceTable.split.Goals as goal

pub split_seat-place-requires : goal.split_seat-place-requires
split_seat-place-requires c =
    let first = ap (λ s. s.view.number) c.seat.view_is ∙ c.requires.first in
    let few = subst (λ (k : ℕ). k < 4294967295) (sym (ap (λ s. s.view.made) c.seat.view_is)) c.requires.few in (
      search rules,
      omega arith,
      allows_split c.self.inside.table.shared.key.bases c.self.inside.table.shared.key.draws c.seat.inside.place.id c.seat.inside.place.me.0
          c.seat.invariant.live first few,
    )

pub invariant_of-result : goal.invariant_of-result
invariant_of-result c =
    let first = ap (λ s. s.view.number) c.seat.view_is ∙ c.requires.first in
    let same_bases = ap (λ s. s.view.bases) c.seat.view_is ∙ (c.requires.own.1 ∙ sym (ap (λ t. t.bases) c.self.view_is)) in
    let count = ap cell_count same_bases ∙ count_is c.self.inside.key.bases c.cell_count-cells.result c.cell_count-cells.ensures.exact in
    sat_new c.split_seat-place.result.me c.seat.inside.place.me.0 c.seat.inside.made _ c.in_ok-claims.claims.items
    c.split_seat-place.ensures.4 (c.seat.invariant.made_same first) (search rules) (omega (arith, c.in_ok-claims.ensures.capacity))
