use Rattle.std.proofs.Common.{rules, ◌≡◌, ◌≤◌, sym, ap, ◌∙◌, arith, true, length}
use Rattle.std.specs.Prelude.{◌==◌, vec_len}
use Rattle.line_break.specs.Best.{end_of}
use Rattle.line_break.specs.Sweep.{active}
use Rattle.break_sweep.specs.Made.{ways_of}
use Rattle.break_sweep.proofs.EndedSweeps.{none-listed, stays-none}
use Rattle.break_sweep.proofs.answer.ActiveNodes.sweep.Goals.{else-loop-place-test, then-loop-place-test+then-is_empty}
use Rattle.break_sweep.proofs.answer.ActiveNodes.sweep.Goals as goal

pub loop-place-init : goal.loop-place-init
loop-place-init g c = c.in_ok-arrays.ensures (g.L.Lines.pass c.args.lines.now) (sym c.open_ended.ensures)

-- all places were passed, or no node was left before
pub returns : goal.returns
returns g c =
    let q = g.L.Lines.pass c.args.lines.now in
    let place = c.loop-place.place in
    let arrays = c.loop-place.arrays in
    let end : c.places-place-end.result ≡ end_of q = c.places-place-end.ensures in
    elim c.loop-place-test.branch [
      | else-loop-place-test w ↦
          let all : place ≡ c.places-place-end.result = omega (arith, w.loop-place-test, c.loop-place.auto.place-end) in
          c.loop-place.invariant.spelled ∙ ap (active q) (all ∙ end)
      | then-loop-place-test+then-is_empty w ↦
          let told : (vec_len arrays.active == 0) ≡ true = sym w.is_empty.ensures ∙ w.if-is_empty.true in
          let empty : length arrays.active.items ≡ 0 = search rules in
          let none = none-listed (ways_of arrays.nodes.items) arrays.active.items empty in
          let before : place ≤ end_of q = omega (arith, w.loop-place-test, end) in
          none ∙ sym (stays-none q place (end_of q) before (sym c.loop-place.invariant.spelled ∙ none))
    ]
