-- A step other than 0 is that of a cell of the source's, which has the width there.
use Rattle.std.proofs.Common.{ap, sym, ◌∙◌, subst, List, w32, FitsSigned, rules}
use Rattle.std.proofs.lemmas.Int.{to_z-of_z}
use Rattle.instance_core.specs.declared.font.BaseFont.{BaseFont}
use Rattle.instance_core.specs.Cells.{IsCellOf}
use Rattle.instance_core.specs.Instances.{instance_width}
use Rattle.hpack_two.proofs.Cells.{cell-has}
use Rattle.hpack_two.proofs.Instances.{instance-is}
use Rattle.hpack_two.proofs.Stored.{some-stored}
use Rattle.hpack_two.proofs.glyphs.advance.Goals as goal

pub width-requires-else-cell-eq0 : goal.width-requires-else-cell-eq0
width-requires-else-cell-eq0 g c =
    subst (λ (bases : List BaseFont). IsCellOf bases c.args.cell) (sym c.requires.source)
    (cell-has c.args.stock.now c.args.cell.font c.args.cell.step c.requires.step (some-stored c.args.cell.step c.if-cell-eq0.false))

pub returns-else-cell-eq0-clause-exact : goal.returns-else-cell-eq0-clause-exact
returns-else-cell-eq0-clause-exact g c =
    let fits : FitsSigned w32 c.width-else-cell-eq0.result = search rules in
    to_z-of_z w32 c.width-else-cell-eq0.result fits
    ∙ c.width-else-cell-eq0.ensures.width
    ∙ ap (λ (bases : List BaseFont). instance_width bases c.args.cell c.args.code) c.requires.source
    ∙ instance-is c.args.stock.now c.args.cell.font c.args.cell.step c.args.code c.requires.step.font c.requires.step.is
