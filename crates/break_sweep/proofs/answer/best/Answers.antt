use Rattle.std.proofs.Common.{◌≡◌, Option, ap, ◌∙◌, subst}
use Rattle.std.specs.Prelude.{IfOk}
use Rattle.line_break.specs.declared.node.Way.{Way}
use Rattle.line_break.specs.Sweep.{first_of_least}
use Rattle.line_break.proofs.Ending.{chosen}
use Rattle.break_sweep.proofs.answer.best.Goals as goal

pub returns : goal.returns
returns g c =
    subst (λ (b : Option Way). IfOk c.best.result (λ way. way ≡ b)) (ap first_of_least c.in_ok-nodes.ensures ∙ chosen (g.L.Lines.pass c.args.lines.now) c.requires) c.best.ensures
