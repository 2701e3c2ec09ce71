use Rattle.liang_hyph.specs.Table.{PatternTable}
use Rattle.liang_hyph.proofs.TableLemmas.{IsMadeOf-merged, IsSilentPast-merged}
use Rattle.liang_hyph.proofs.table.Patterns.make.Goals as goal

pub invariant_of-result : goal.invariant_of-result
invariant_of-result c =
    let table : PatternTable = record { anywhere = c.in_ok-merge.field-0; at_start = c.in_ok-merge-2.field-0; at_end = c.in_ok-merge-3.field-0; as_word = c.in_ok-merge-4.field-0; exceptions = c.in_ok-list_exceptions.field-0 } in
    IsSilentPast-merged c.args.patterns.now table c.longest.result c.in_ok-merge.ensures c.in_ok-merge-2.ensures c.in_ok-merge-3.ensures c.in_ok-merge-4.ensures c.longest.ensures

pub returns : goal.returns
returns c =
    let table : PatternTable = record { anywhere = c.in_ok-merge.field-0; at_start = c.in_ok-merge-2.field-0; at_end = c.in_ok-merge-3.field-0; as_word = c.in_ok-merge-4.field-0; exceptions = c.in_ok-list_exceptions.field-0 } in
    IsMadeOf-merged c.args.patterns.now c.args.exceptions.now table c.in_ok-merge.ensures c.in_ok-merge-2.ensures c.in_ok-merge-3.ensures c.in_ok-merge-4.ensures c.in_ok-list_exceptions.ensures
