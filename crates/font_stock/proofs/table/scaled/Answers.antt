use Rattle.std.proofs.Common.{rules, FitsSigned, w32}
use Rattle.std.proofs.lemmas.Int.{to_z-of_z}
use Rattle.font_stock.proofs.table.scaled.Goals as goal

pub stretch-requires-clause-expanded : goal.stretch-requires-clause-expanded
stretch-requires-clause-expanded c =
    let fits : FitsSigned w32 c.args.info.width = search rules in
    simp to_z-of_z c.requires.expanded

pub shrink-requires-clause-expanded : goal.shrink-requires-clause-expanded
shrink-requires-clause-expanded c =
    let fits : FitsSigned w32 c.args.info.width = search rules in
    simp to_z-of_z c.requires.expanded
