use Rattle.std.proofs.Common.{◌≡◌, arith, sym, ◌∙◌, ap, get_or, false, true, List, Bool, map}
use Rattle.instance_core.specs.declared.cell.Cell.{Cell}
use Rattle.instance_core.specs.declared.font.BaseFont.{BaseFont}
use Rattle.instance_core.specs.Cells.{has_cell, cells_of, in_cell_order}
use Rattle.instance_core.proofs.CellNumbers.{number_of-some}
use Rattle.instance_core.proofs.Marks.{Keeps, IsAt, is_at, touched-new, Keeps-new, touched-old, room-new, place-new, was_marked}
use Rattle.instance_core.proofs.plain.PlainWidthsWidthSource.width.Goals as goal
use Rattle.instance_core.proofs.plain.PlainWidthsWidthSource.width.Goals.{in-Some+then-not-index, in-Some+else-not-index, in_default}

pub put_in_order-requires-clause-room : goal.put_in_order-requires-clause-room
put_in_order-requires-clause-room c =
    let at : IsAt c.args.self.now.bases.now c.in-Some.number c.args.cell = is_at c.args.self.now.bases.now c.in-Some.number c.args.cell c.args.self.now.kept.each c.in-Some.ensures.back in
    let new : get_or c.args.self.now.asked.items c.in-Some.number false ≡ false = sym (rw c.if-not-index.true at c.index.ensures) in
    let keeps : Keeps c.args.self.now.bases.now c.args.self.now.asked.items c.args.self.now.cells.items = record { marks = c.args.self.now.marks; order = c.args.self.now.order } in
    omega (arith, room-new c.args.self.now.bases.now c.args.self.now.asked.items c.args.self.now.cells.items c.in-Some.number c.args.cell keeps at new, c.args.self.now.room)

pub put_in_order-requires-clause-few : goal.put_in_order-requires-clause-few
put_in_order-requires-clause-few c =
    let keeps : Keeps c.args.self.now.bases.now c.args.self.now.asked.items c.args.self.now.cells.items = record { marks = c.args.self.now.marks; order = c.args.self.now.order } in
    place-new c.args.self.now.bases.now c.args.self.now.asked.items c.args.self.now.cells.items c.in-Some.number keeps

pub invariant_of-self : goal.invariant_of-self
invariant_of-self c =
    let at : IsAt c.args.self.now.bases.now c.in-Some.number c.args.cell = is_at c.args.self.now.bases.now c.in-Some.number c.args.cell c.args.self.now.kept.each c.in-Some.ensures.back in
    let new : get_or c.args.self.now.asked.items c.in-Some.number false ≡ false = sym (rw c.if-not-index.true at c.index.ensures) in
    let keeps : Keeps c.args.self.now.bases.now c.args.self.now.asked.items c.args.self.now.cells.items = record { marks = c.args.self.now.marks; order = c.args.self.now.order } in
    let after = Keeps-new c.args.self.now.bases.now c.args.self.now.asked.items c.args.self.now.cells.items c.in-Some.number c.args.cell keeps at new in
    record {
      kept = c.args.self.now.kept;
      marks = c.put_in_order.ensures.marks ∙ after.marks ∙ ap (λ cells. map_has cells c.args.self.now.bases.now) (sym c.put_in_order.ensures.cells);
      order = c.put_in_order.ensures.cells ∙ after.order ∙ ap (in_cell_order c.args.self.now.bases.now) (sym c.put_in_order.ensures.cells);
      room = omega (arith, c.args.self.now.room, c.put_in_order.ensures.capacity);
    }
  where
    map_has : List Cell → List BaseFont → List Bool
    map_has cells fonts = map (has_cell cells) (cells_of fonts)

pub returns-clause-touched : goal.returns-clause-touched
returns-clause-touched c =
    elim c.match-cell_number.branch [
      | in-Some+then-not-index w ↦
          let at : IsAt c.args.self.now.bases.now w.in-Some.number c.args.cell = is_at c.args.self.now.bases.now w.in-Some.number c.args.cell c.args.self.now.kept.each w.in-Some.ensures.back in
          let new : get_or c.args.self.now.asked.items w.in-Some.number false ≡ false = sym (rw w.if-not-index.true at w.index.ensures) in
          let keeps : Keeps c.args.self.now.bases.now c.args.self.now.asked.items c.args.self.now.cells.items = record { marks = c.args.self.now.marks; order = c.args.self.now.order } in
          ap (λ s. s.cells.items) w.self-is ∙ w.put_in_order.ensures.cells
          ∙ touched-new c.args.self.now.bases.now c.args.self.now.asked.items c.args.self.now.cells.items w.in-Some.number c.args.cell keeps at new
      | in-Some+else-not-index w ↦
          let at : IsAt c.args.self.now.bases.now w.in-Some.number c.args.cell = is_at c.args.self.now.bases.now w.in-Some.number c.args.cell c.args.self.now.kept.each w.in-Some.ensures.back in
          let keeps : Keeps c.args.self.now.bases.now c.args.self.now.asked.items c.args.self.now.cells.items = record { marks = c.args.self.now.marks; order = c.args.self.now.order } in
          let was : get_or c.args.self.now.asked.items w.in-Some.number false ≡ true = was_marked c.args.self.now.bases.now c.args.self.now.asked.items c.args.self.now.cells.items w.in-Some.number c.args.cell keeps at (sym (rw w.if-not-index.false at w.index.ensures)) in
          ap (λ s. s.cells.items) w.self-is
          ∙ touched-old c.args.self.now.bases.now c.args.self.now.asked.items c.args.self.now.cells.items w.in-Some.number c.args.cell keeps at was
      | in_default w ↦
          let some = number_of-some c.args.self.now.bases.now c.args.cell c.args.self.now.kept.each c.requires in
          absurd (w.in_default.not-Some some.0 (c.cell_number.ensures.exact ∙ some.2))
    ]
