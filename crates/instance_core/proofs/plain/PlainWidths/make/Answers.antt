use Rattle.std.proofs.Common.{◌≡◌, arith, sym, ◌∙◌, ap, map, false, replicate, rules}
use Rattle.instance_core.specs.Cells.{has_cell, cells_of, in_cell_order}
use Rattle.instance_core.proofs.Marks.{marks-none, in_cell_order-none}
use Rattle.instance_core.proofs.plain.PlainWidths.make.Goals as goal

pub invariant_of-result : goal.invariant_of-result
invariant_of-result c =
    let unasked : c.in_ok-vec.field-0.items ≡ replicate c.cell_count-count.result false = search rules in
    record {
      kept = c.is_in_range.ensures;
      marks =
          unasked ∙ ap (λ n. replicate n false) c.cell_count-count.ensures.exact
          ∙ marks-none (cells_of c.args.bases.now) ∙ ap (λ cells. map (has_cell cells) (cells_of c.args.bases.now)) (sym c.in_ok-with_capacity.ensures.items);
      order =
          c.in_ok-with_capacity.ensures.items ∙ sym (in_cell_order-none c.args.bases.now)
          ∙ ap (in_cell_order c.args.bases.now) (sym c.in_ok-with_capacity.ensures.items);
      room = omega (arith, c.cell_count-count.ensures.exact, c.in_ok-with_capacity.ensures.capacity);
    }
