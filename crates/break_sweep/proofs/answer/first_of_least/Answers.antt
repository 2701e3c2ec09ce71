use Rattle.std.proofs.Common.{◌≡◌, ◌<◌, ◌+◌, ◌-◌, ◌&&◌, cond, length, get_or, drop, Option, Some, refl, sym, ap, ◌∙◌, subst, arith}
use Rattle.std.specs.Prelude.{option_map, IfSome}
use Rattle.line_break.specs.Sweep.{first_of_least}
use Rattle.break_sweep.specs.Made.{listed, no_made, way_at, ways_of}
use Rattle.break_sweep.specs.Choosing.{is_to_take, is_wanted, of_wanted}
use Rattle.break_sweep.proofs.NodeWays.{listed_length}
use Rattle.break_sweep.proofs.Choices.{none_yet, choice_more, chosen_within}
use Rattle.break_sweep.proofs.answer.first_of_least.Goals as goal

pub loop-back-init : goal.loop-back-init
loop-back-init c =
    let all = listed (ways_of c.args.nodes.now) c.args.active.now in
    let n = listed_length (ways_of c.args.nodes.now) c.args.active.now in
    (none_yet c.args.group all (length c.args.active.now - 0) (omega arith), tt)

pub loop-back-preserved : goal.loop-back-preserved
loop-back-preserved c =
    let ms = c.args.nodes.now in
    let is = c.args.active.now in
    let back = c.loop-back.back in
    let found = c.loop-back.found in
    let h : back < length is = omega arith in
    let index = get_or is (length is - 1 - back) 0 in
    let k : index < length ms = c.requires (length is - 1 - back) 0 (omega arith) in
    let m = get_or ms index no_made in
    let taken : c.chosen-found.result ≡ cond (is_wanted m.node c.args.group && is_to_take ms found m) (Some index) found =
    c.chosen-found.ensures
    ∙ (ap (λ b. cond (b && c.is_to_take-better.result) (Some index) found) c.is_wanted-wanted.ensures
    ∙ ap (λ b. cond (is_wanted m.node c.args.group && b) (Some index) found) c.is_to_take-better.ensures) in (
      ap (option_map (way_at (ways_of ms))) taken ∙ choice_more ms is c.args.group back found index m h c.loop-back.invariant.1 refl k refl c.loop-back.invariant.0,
      subst (λ o. IfSome o (λ i. i < length ms)) (sym taken) (chosen_within (length ms) _ index found k c.loop-back.invariant.1),
    )
