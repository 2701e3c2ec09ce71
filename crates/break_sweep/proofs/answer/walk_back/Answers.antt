use Rattle.std.proofs.Common.{◌≡◌, ◌<◌, ◌≤◌, ◌∷◌, ◌++◌, [], List, length, get_or, refl, sym, ap, ◌∙◌, append_assoc, append-nil, arith}
use Rattle.line_break.specs.declared.node.Node.{Node}
use Rattle.break_sweep.specs.Made.{no_made, way_at, ways_of}
use Rattle.break_sweep.proofs.Choices.{earlier_on, earlier_end}
use Rattle.break_sweep.proofs.answer.walk_back.Goals as goal

pub loop-at-init : goal.loop-at-init
loop-at-init c = (c.requires, ap (λ (l : List Node). l ++ (way_at (ways_of c.args.nodes.now) c.args.index).earlier) c.new-earlier.ensures)

pub loop-at-preserved : goal.loop-at-preserved
loop-at-preserved c =
    let ms = c.args.nodes.now in
    let at = c.loop-at.at in
    let h = c.loop-at.invariant.0 in
    let before = (get_or ms at no_made).before in
    let l : before < at = omega arith in
    let rest = (way_at (ways_of ms) before).earlier in
    let earlier = c.loop-at.earlier in
    let x = (get_or ms before no_made).node in (
      omega arith,
      ap (λ (l : List Node). l ++ rest) c.in_ok-push.ensures.ok
          ∙ (append_assoc earlier (x ∷ []) rest
          ∙ (ap (λ (l : List Node). earlier ++ l) (sym (earlier_on ms at before no_made h refl l)) ∙ c.loop-at.invariant.1)),
    )

pub returns : goal.returns
returns c =
    let ms = c.args.nodes.now in
    let at = c.loop-at.at in
    let l : at ≤ (get_or ms at no_made).before = omega arith in
    sym (append-nil c.loop-at.earlier)
    ∙ (ap (λ (l : List Node). c.loop-at.earlier ++ l) (sym (earlier_end ms at no_made c.loop-at.invariant.0 l)) ∙ c.loop-at.invariant.1)
