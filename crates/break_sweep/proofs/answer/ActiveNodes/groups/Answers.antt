use Rattle.std.proofs.Common.{◌≡◌, ℕ, ◌<◌, ◌≤◌, List, [], ◌∷◌, ◌++◌, ap, sym, ◌∙◌, subst, arith, length, map, take}
use Rattle.std.proofs.lemmas.List.{take_all}
use Rattle.line_break.specs.declared.node.Way.{Way}
use Rattle.break_sweep.specs.Made.{listed, ways_of}
use Rattle.break_sweep.proofs.Choices.{groups_more}
use Rattle.break_sweep.proofs.NodeWays.{listed_length}
use Rattle.break_sweep.proofs.answer.ActiveNodes.groups.Goals as goal

pub loop-at-preserved : goal.loop-at-preserved
loop-at-preserved c =
    let ms = c.self.inside.nodes.items in
    let indices = c.self.inside.active.items in
    let index = c.index-index.result.now in
    let within : c.loop-at.at < length indices = omega (arith, c.loop-at-test.true, c.len-at-end.ensures, c.self.inside.active.ok.0) in
    let below : index < length ms = subst (λ (i : ℕ). i < length ms) (sym c.index-index.ensures) (c.self.invariant c.loop-at.at index within) in
    c.in_ok-push.ensures.ok
    ∙ ap (λ (gs : List ℕ). gs ++ c.index.result.now.node.group ∷ []) c.loop-at.invariant
    ∙ sym (groups_more ms indices c.loop-at.at index c.index.result.now within c.index-index.ensures below c.index.ensures)

pub returns : goal.returns
returns c =
    let ms = c.self.inside.nodes.items in
    let indices = c.self.inside.active.items in
    let all = listed (ways_of ms) indices in
    let count = listed_length (ways_of ms) indices in
    let past : length all ≤ c.loop-at.at = omega (arith, count, c.loop-at-test.false, c.len-at-end.ensures, c.self.inside.active.ok.0) in
    c.loop-at.invariant
    ∙ ap (map (λ (way : Way). way.last.group)) (take_all c.loop-at.at all past)
    ∙ ap (map (λ (way : Way). way.last.group)) c.self.view_is
