use Rattle.std.proofs.Common.{rules, arith, ◌≡◌, ◌+◌, ◌*◌, replicate, sym, ap, ◌∙◌, subst}
use Rattle.instance_table.proofs.SatLemmas.{zero_words, word_count_is, sat_first, count_is}
use Rattle.instance_table.specs.Places.{cell_count}
use Rattle.instance_table.proofs.table.InstanceTable.make.Goals as goal

pub of_words-requires : goal.of_words-requires
of_words-requires c = zero_words c.args.bases.now c.in_ok-bases.bases c.args.draws c.cell_count-cells.result c.as_slice.result.now
    c.ranges.draws.fits c.cell_count-cells.ensures.exact c.in_ok-bases.ensures (search rules)

pub invariant_of-seat : goal.invariant_of-seat
invariant_of-seat c =
    let count = ap cell_count c.in_ok-bases.ensures ∙ count_is c.args.bases.now c.cell_count-cells.result c.cell_count-cells.ensures.exact in
    sat_first c.in_ok-table.place.me c.in_ok-bases.bases c.args.draws _ c.in_ok-claims.claims.items c.in_ok-table.ensures.4 (search rules)
    (omega (arith, c.in_ok-claims.ensures.capacity))

pub invariant_of-result : goal.invariant_of-result
invariant_of-result c =
    let words : c.as_slice.result.now ≡ replicate (1 + 257 * c.cell_count-cells.result) 0 = search rules in (
      c.in_ok-table.ensures.5,
      c.in_ok-table.ensures.0
          ∙ word_count_is c.args.bases.now c.in_ok-bases.bases c.cell_count-cells.result c.as_slice.result.now c.cell_count-cells.ensures.exact c.in_ok-bases.ensures words,
      c.in_ok-table.ensures.1,
    )
