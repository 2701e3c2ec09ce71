-- Each of the five lists is empty.
use Rattle.std.proofs.Common.{subst}
use Rattle.std.proofs.lemmas.Bool.{and_parts}
use Rattle.liang_hyph.specs.Table.{IsSilent}
use Rattle.liang_hyph.proofs.SilentTables.{silent-table}
use Rattle.liang_hyph.proofs.table.Patterns.is_empty.Goals as goal

pub returns : goal.returns
returns c all =
    let five = and_parts _ c.is_empty-exceptions.result all in
    let four = and_parts _ c.is_empty-as_word.result five.0 in
    let three = and_parts _ c.is_empty-at_end.result four.0 in
    let two = and_parts c.is_empty-anywhere.result c.is_empty-at_start.result three.0 in
    let inside = c.self.inside in
    subst IsSilent c.self.view_is
    (silent-table (record {
      anywhere = inside.anywhere;
      at_start = inside.at_start;
      at_end = inside.at_end;
      as_word = inside.as_word;
      exceptions = inside.exceptions;
    }) (c.is_empty-anywhere.ensures two.0) (c.is_empty-at_start.ensures two.1) (c.is_empty-at_end.ensures three.1)
    (c.is_empty-as_word.ensures four.1) (c.is_empty-exceptions.ensures five.1))
