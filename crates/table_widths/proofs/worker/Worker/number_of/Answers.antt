use Rattle.std.proofs.Common.{sym, ◌∙◌, subst, List}
use Rattle.instance_core.specs.declared.font.BaseFont.{BaseFont}
use Rattle.instance_core.specs.Cells.{IsCellOf}
use Rattle.instance_core.proofs.CellNumbers.{number_of-some}
use Rattle.table_widths.specs.Widths.{IsNumbered}
use Rattle.table_widths.proofs.Numbers.{numbered}
use Rattle.table_widths.proofs.worker.Worker.number_of.Goals as goal

pub unreachable-requires : goal.unreachable-requires
unreachable-requires g c =
    let here = subst (λ (fs : List BaseFont). IsCellOf fs c.args.cell) (sym c.bases-bases.ensures) c.requires in
    let some = number_of-some c.bases-bases.result.now c.args.cell c.is_in_range.ensures.each here in
    c.in_default.not-Some some.0 (c.cell_number.ensures.exact ∙ some.2)

pub returns : goal.returns
returns g c =
    subst (λ (fs : List BaseFont). IsNumbered fs c.args.cell c.in-Some.number) c.bases-bases.ensures
    (numbered c.bases-bases.result.now c.args.cell c.in-Some.number c.in-Some.ensures.back (sym c.in-Some.ensures.exact))
