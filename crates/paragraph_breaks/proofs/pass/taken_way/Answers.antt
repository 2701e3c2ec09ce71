use Rattle.std.proofs.Common.{◌≡◌, Option, ℤ, ap, ◌∙◌, subst, sym, w32, to_z, of_z}
use Rattle.std.specs.Prelude.{IfOk}
use Rattle.std.proofs.lemmas.Int.{to_z-of_z}
use Rattle.line_break.specs.declared.node.Way.{Way}
use Rattle.line_break.specs.Best.{best}
use Rattle.break_pass.specs.Passes.{pass_of}
use Rattle.paragraph_breaks.proofs.TakenPasses.{best_taken}
use Rattle.paragraph_breaks.proofs.pass.taken_way.Goals as goal

pub returns-then-has_no_looseness : goal.returns-then-has_no_looseness
returns-then-has_no_looseness c =
    let rule = c.args.rule.now in
    let t = c.args.threshold in
    let same : to_z w32 (of_z w32 t) ≡ t = to_z-of_z w32 t c.ranges.threshold in
    let is = ap (λ (x : ℤ). best (pass_of rule x c.args.last)) same
    ∙ best_taken (pass_of rule t c.args.last) rule.params.looseness (sym c.has_no_looseness.ensures ∙ c.if-has_no_looseness.true) in
    subst (λ (b : Option Way). IfOk c.best_of_pass.result (λ way. way ≡ b)) is c.best_of_pass.ensures
