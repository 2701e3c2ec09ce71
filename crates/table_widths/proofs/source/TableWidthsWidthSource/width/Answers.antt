use Rattle.std.proofs.Common.{[], ◌∷◌, ◌++◌, ap, ◌∙◌}
use Rattle.instance_table.specs.Seats.{Sitting}
use Rattle.table_widths.specs.Widths.{touched_of}
use Rattle.table_widths.proofs.Touched.{touched_of-more}
use Rattle.table_widths.proofs.source.TableWidthsWidthSource.width.Goals as goal

pub returns-clause-touched : goal.returns-clause-touched
returns-clause-touched g c =
    let bases = c.args.self.now.worker.table.now.bases in
    let number = c.number_of-number.result in
    ap (touched_of bases) (c.width.ensures.answers.seen ∙ ap (λ (s : Sitting). s.view.seen ++ number ∷ []) c.number_of-number.ensures.seat)
    ∙ touched_of-more bases c.args.self.now.seat.view.seen number c.args.cell c.number_of-number.ensures.number.cell_is
