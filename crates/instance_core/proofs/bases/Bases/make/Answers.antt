use Rattle.std.proofs.Common.{◌≡◌, ◌+◌, arith, length, get_or, refl, sym, ◌∙◌, ap, length-append}
use Rattle.instance_core.specs.Bases.{AreBases}
use Rattle.instance_core.specs.Cells.{cells_from, steps_of}
use Rattle.instance_core.proofs.CellNumbers.{length-cells_of_few, length-cells_more, firsts_more, AreNumbered-all}
use Rattle.instance_core.proofs.bases.Bases.make.Goals as goal

pub loop-font-init : goal.loop-font-init
unfolding cells_from
loop-font-init c = record {
  count = ap length c.in_ok-firsts.ensures.items;
  first = λ k below. absurd (omega arith);
  all = refl;
}

pub overflow_add-cells : goal.overflow_add-cells
overflow_add-cells c =
    let few = length-cells_of_few c.args.fonts.items c.loop-font.font-index c.requires.each c.requires.few in
    let all = rw c.deref-font-items.ensures.value at c.loop-font.invariant.all in
    omega (arith, few, all, c.steps-cells.ensures.few)

pub loop-font-preserved : goal.loop-font-preserved
loop-font-preserved c = record {
  count = rw c.in_ok-push.ensures.items (rw length-append (ap (λ n. n + 1) c.loop-font.invariant.count));
  first = λ k below. rw c.in_ok-push.ensures.items
      (firsts_more c.deref-font-items.result.now c.loop-font.firsts.items c.loop-font.cells c.loop-font.font-index
      c.loop-font.invariant.count c.loop-font.invariant.first c.loop-font.invariant.all k below);
  all =
      let more = length-cells_more c.deref-font-items.result.now c.loop-font.font-index c.font-item.result (omega arith) in
      let item : c.font-item.result ≡ get_or c.deref-font-items.result.now c.loop-font.font-index c.font-item.result = c.font-item.is in
      omega (arith, more, c.loop-font.invariant.all, c.steps-cells.ensures.exact, ap (λ f. length (steps_of f)) item);
}

pub invariant_of-result : goal.invariant_of-result
invariant_of-result c =
    let end : c.loop-font.font-index ≡ length c.deref-font-items.result.now = omega (arith, c.loop-font.auto.font-index-end) in
    let bases : AreBases c.deref-font-items.result.now = rw c.deref-font-items.ensures.value c.requires in
    AreNumbered-all c.deref-font-items.result.now _ c.loop-font.firsts.items _ c.loop-font.cells c.loop-font.font-index bases
    (c.from_vec.ensures ∙ sym c.deref-font-items.ensures.value) c.from_vec-2.ensures end
    c.loop-font.invariant.count c.loop-font.invariant.first c.loop-font.invariant.all
