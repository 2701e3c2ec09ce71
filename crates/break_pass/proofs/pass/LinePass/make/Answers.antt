use Rattle.std.proofs.Common.{List, ap, ◌∙◌, subst}
use Rattle.micro_num.specs.declared.params.Params.{Params}
use Rattle.micro_num.specs.declared.shape.ShapeLine.{ShapeLine}
use Rattle.micro_num.specs.Shape.{open_group}
use Rattle.break_pass.specs.Demerits.{AreSmall}
use Rattle.break_pass.proofs.PassLaws.{amounts_of_lines, few_places, groups_of_lines}
use Rattle.break_pass.proofs.pass.LinePass.make.Goals as goal

pub invariant_of-result : goal.invariant_of-result
invariant_of-result c =
    let rule = c.args.rule.now in
    let small : AreSmall rule.params = subst AreSmall c.params-params.ensures c.added_parameters_fit.ensures in
    record {
      kept = c.in_ok-places.ensures;
      ended =
          c.open_ended_group-open_ended.ensures
          ∙ ap (λ (params : Params). open_group params c.shape-shape.result.now) c.params-params.ensures
          ∙ ap (λ (shape : List ShapeLine). open_group rule.params shape) c.shape-shape.ensures;
      few = few_places rule _ c.args.last c.requires.few;
      amounts = λ x to. amounts_of_lines rule _ c.args.last x to small;
      groups = groups_of_lines rule _ c.args.last;
    }
