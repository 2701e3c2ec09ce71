use Rattle.std.proofs.Common.{List, ◌∷◌, ◌++◌, [], pos, ap, ◌∙◌, ℕ}
use Rattle.break_sweep.specs.declared.made.Made.{Made}
use Rattle.break_sweep.proofs.Actives.{start_active}
use Rattle.break_sweep.proofs.sweep.Arrays.start.Goals as goal

pub returns : goal.returns
returns c = λ q e.
    start_active q c.args.ended c.first_group.result _ _ e c.first_group.ensures
    (c.in_ok-push.ensures.items ∙ ap (λ (l : List Made). l ++ record { node = record { place = 0; group = c.first_group.result; class = 2 }; total = pos 0; before = 0 } ∷ []) c.new-nodes.ensures.items)
    (c.in_ok-push-2.ensures.items ∙ ap (λ (l : List ℕ). l ++ 0 ∷ []) c.new-active.ensures.items)
