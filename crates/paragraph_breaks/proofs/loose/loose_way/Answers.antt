use Rattle.std.proofs.Common.{rules, ◌≡◌, ℕ, pos, ◌||◌, ◌∙◌, ap, sym, subst, ℤ, Bool, true, false, List, Option, Some, None, map, option_map, w32, to_z, of_z, FitsSigned}
use Rattle.std.specs.Prelude.{IfOk}
use Rattle.std.specs.Ordering.{int_eq}
use Rattle.std.proofs.lemmas.Int.{to_z-of_z}
use Rattle.line_break.specs.declared.node.Way.{Way}
use Rattle.line_break.specs.Best.{end_of}
use Rattle.line_break.specs.Laws.{of_group}
use Rattle.line_break.specs.Sweep.{active, first_of_least}
use Rattle.break_rule.specs.Fits.{Rule}
use Rattle.break_pass.specs.Passes.{pass_of}
use Rattle.break_pass.proofs.PassLaws.{pass_ends}
use Rattle.paragraph_breaks.specs.Nearness.{excess}
use Rattle.paragraph_breaks.specs.Passes.{taken_way}
use Rattle.paragraph_breaks.proofs.LooseWays.{Nearest, none_found, none_near, group_taken, group_left, is_loose}
use Rattle.paragraph_breaks.proofs.TakenPasses.{none_of, pass_final, pass_single}
use Rattle.paragraph_breaks.proofs.loose.loose_way.Goals as goal

-- the nodes at the end of the pass, with the threshold as it was handed over
module _ (rule : Rule) (t given : ℤ) (last : Bool) (same : given ≡ t) (nodes : List Way)
    (are : nodes ≡ active (pass_of rule given last) (end_of (pass_of rule given last))) (loose : int_eq rule.params.looseness (pos 0) ≡ false) where
  nodes-are : nodes ≡ active (pass_of rule t last) (end_of (pass_of rule t last))
  nodes-are = are ∙ ap (λ (x : ℤ). active (pass_of rule x last) (end_of (pass_of rule x last))) same

  no-way : None ≡ first_of_least nodes → None ≡ taken_way (pass_of rule t last) rule.params.looseness
  no-way none =
      let other = is_loose rule.params.looseness loose in
      none_found (pass_of rule t last) (pass_ends rule t last) (pass_single rule t last other) rule.params.looseness other nodes nodes-are none

  module _ (best : Way) (some : Some best ≡ first_of_least nodes) (groups : List ℕ) (own : groups ≡ map (λ (way : Way). way.last.group) nodes)
      (l : ℤ) (asked : l ≡ rule.params.looseness) where
    no-group : option_map (excess best.last.group) None ≡ Nearest l best.last.group groups
        → None ≡ taken_way (pass_of rule t last) rule.params.looseness
    no-group near =
        let other = is_loose rule.params.looseness loose in
        none_near (pass_of rule t last) (pass_ends rule t last) (pass_single rule t last other) rule.params.looseness other nodes nodes-are best groups
        some own (near ∙ ap (λ (x : ℤ). Nearest x best.last.group groups) asked)

    taken-is : (group : ℕ) (taken : Bool) → (last || int_eq (excess best.last.group group) l) ≡ taken
        → ((pass_of rule t last).final || int_eq (excess best.last.group group) rule.params.looseness) ≡ taken
    taken-is group taken is =
        ap (λ (f : Bool). f || int_eq (excess best.last.group group) rule.params.looseness) (pass_final rule t last)
        ∙ ap (λ (x : ℤ). last || int_eq (excess best.last.group group) x) (sym asked)
        ∙ is

    a-group : (group : ℕ) → option_map (excess best.last.group) (Some group) ≡ Nearest l best.last.group groups
        → (last || int_eq (excess best.last.group group) l) ≡ true
        → first_of_least (of_group group nodes) ≡ taken_way (pass_of rule t last) rule.params.looseness
    a-group group near taken =
        let other = is_loose rule.params.looseness loose in
        group_taken (pass_of rule t last) (pass_ends rule t last) (pass_single rule t last other) rule.params.looseness other nodes nodes-are best groups
        group some own (near ∙ ap (λ (x : ℤ). Nearest x best.last.group groups) asked) (taken-is group true taken)

    left-group : (group : ℕ) → option_map (excess best.last.group) (Some group) ≡ Nearest l best.last.group groups
        → (last || int_eq (excess best.last.group group) l) ≡ false → None ≡ taken_way (pass_of rule t last) rule.params.looseness
    left-group group near left =
        let other = is_loose rule.params.looseness loose in
        group_left (pass_of rule t last) (pass_ends rule t last) (pass_single rule t last other) rule.params.looseness other nodes nodes-are best groups
        group some own (near ∙ ap (λ (x : ℤ). Nearest x best.last.group groups) asked) (taken-is group false left)

pub returns-in_default : goal.returns-in_default
returns-in_default c =
    let t = c.args.threshold in
    no-way c.args.rule.now t (to_z w32 (of_z w32 t)) c.args.last (to_z-of_z w32 t c.ranges.threshold) c.in_ok-nodes.nodes c.in_ok-nodes.ensures
    c.requires.loose (sym (none_of c.in_ok-best.field-0 c.in_default.not-Some) ∙ c.in_ok-best.ensures)

pub returns-in_default-nearest_group : goal.returns-in_default-nearest_group
returns-in_default-nearest_group c =
    let t = c.args.threshold in
    let asked = c.looseness_of-looseness.result in
    let fits : FitsSigned w32 asked = search rules in
    let best = c.in-Some.best in
    no-group c.args.rule.now t (to_z w32 (of_z w32 t)) c.args.last (to_z-of_z w32 t c.ranges.threshold) c.in_ok-nodes.nodes c.in_ok-nodes.ensures
    c.requires.loose best (sym c.in-Some.is ∙ c.in_ok-best.ensures) c.as_slice.result.now (c.as_slice.ensures ∙ c.in_ok-groups.ensures)
    (to_z w32 (of_z w32 asked)) (to_z-of_z w32 asked fits ∙ c.looseness_of-looseness.ensures)
    (ap (option_map (excess best.last.group)) (sym (none_of c.nearest_group.result c.in_default-nearest_group.not-Some)) ∙ c.nearest_group.ensures)

pub returns-then-is_taken : goal.returns-then-is_taken
returns-then-is_taken c =
    let t = c.args.threshold in
    let asked = c.looseness_of-looseness.result in
    let fits : FitsSigned w32 asked = search rules in
    let best = c.in-Some.best in
    subst (λ (found : Option Way). IfOk c.best_of_group.result (λ way. way ≡ found))
    (a-group c.args.rule.now t (to_z w32 (of_z w32 t)) c.args.last (to_z-of_z w32 t c.ranges.threshold) c.in_ok-nodes.nodes c.in_ok-nodes.ensures
    c.requires.loose best (sym c.in-Some.is ∙ c.in_ok-best.ensures) c.as_slice.result.now (c.as_slice.ensures ∙ c.in_ok-groups.ensures)
    (to_z w32 (of_z w32 asked)) (to_z-of_z w32 asked fits ∙ c.looseness_of-looseness.ensures) c.in-Some-nearest_group.group
    c.in-Some-nearest_group.ensures (sym c.is_taken.ensures ∙ c.if-is_taken.true))
    c.best_of_group.ensures

pub returns : goal.returns
returns c =
    let t = c.args.threshold in
    let asked = c.looseness_of-looseness.result in
    let fits : FitsSigned w32 asked = search rules in
    let best = c.in-Some.best in
    left-group c.args.rule.now t (to_z w32 (of_z w32 t)) c.args.last (to_z-of_z w32 t c.ranges.threshold) c.in_ok-nodes.nodes c.in_ok-nodes.ensures
    c.requires.loose best (sym c.in-Some.is ∙ c.in_ok-best.ensures) c.as_slice.result.now (c.as_slice.ensures ∙ c.in_ok-groups.ensures)
    (to_z w32 (of_z w32 asked)) (to_z-of_z w32 asked fits ∙ c.looseness_of-looseness.ensures) c.in-Some-nearest_group.group
    c.in-Some-nearest_group.ensures (sym c.is_taken.ensures ∙ c.if-is_taken.false)
