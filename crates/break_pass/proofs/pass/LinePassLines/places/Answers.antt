use Rattle.std.proofs.Common.{◌∙◌, ap, arith, length}
use Rattle.break_pass.specs.Passes.{pass_of}
use Rattle.break_pass.proofs.PlaceLaws.{count_of_places}
use Rattle.break_pass.proofs.pass.LinePassLines.places.Goals as goal

pub overflow_cast-result : goal.overflow_cast-result
unfolding pass_of
overflow_cast-result c =
    let pass = c.args.self.now in
    let long = ap length pass.kept ∙ count_of_places pass.rule.now in
    let few = pass.few in
    let is = c.len.ensures in
    omega (arith, long, few, is, pass.places.ok.0)

pub returns : goal.returns
unfolding pass_of
returns c =
    let pass = c.args.self.now in
    let long = ap length pass.kept ∙ count_of_places pass.rule.now in
    let is = c.len.ensures in
    omega (arith, long, is, pass.places.ok.0)
