use Rattle.std.proofs.Common.{rules, sym, ◌∙◌, ap, subst, List, w32, FitsSigned}
use Rattle.std.proofs.lemmas.Int.{to_z-of_z}
use Rattle.instance_core.specs.declared.cell.Cell.{Cell}
use Rattle.instance_core.specs.declared.font.BaseFont.{BaseFont}
use Rattle.instance_core.specs.Cells.{IsCellOf}
use Rattle.instance_core.specs.Instances.{instance_width}
use Rattle.table_widths.proofs.Numbers.{numbered-cell}
use Rattle.table_widths.proofs.worker.Worker.base_width.Goals as goal

pub width-requires : goal.width-requires
width-requires g c =
    subst (λ (fs : List BaseFont). IsCellOf fs c.args.cell) (sym c.bases.ensures)
    (numbered-cell c.args.self.now.table.now.bases c.args.cell c.args.number c.requires)

pub returns : goal.returns
returns g c =
    let fits : FitsSigned w32 c.width.result = search rules in
    to_z-of_z w32 c.width.result fits
    ∙ c.width.ensures
    ∙ ap (λ (fs : List BaseFont). instance_width fs c.args.cell c.args.code) c.bases.ensures
    ∙ ap (λ (x : Cell). instance_width c.args.self.now.table.now.bases x c.args.code) (sym c.requires.cell_is)
