use Rattle.std.proofs.Common.{◌∙◌, w32, FitsSigned, rules}
use Rattle.std.proofs.lemmas.Int.{to_z-of_z}
use Rattle.hpack_two.proofs.Fonts.{kern-is}
use Rattle.hpack_two.proofs.steps.kern_as_it_is.Goals as goal

pub returns : goal.returns
returns c =
    let fix_fits : FitsSigned w32 c.args.fix = search rules in
    let fits : FitsSigned w32 c.kern.result = search rules in
    let is = simp to_z-of_z at c.kern.ensures in
    to_z-of_z w32 c.kern.result fits ∙ is ∙ kern-is c.args.stock.now c.args.font c.args.fix c.font-font.result.now c.font-font.ensures
