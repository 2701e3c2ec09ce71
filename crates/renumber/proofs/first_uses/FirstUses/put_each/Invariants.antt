use Rattle.std.proofs.Common.{◌≡◌, drop, map}
use Rattle.indexmap.specs.IndexSet.{insert_all}
use Rattle.instance_core.specs.declared.page.Placed.{Placed}
use Rattle.instance_core.specs.Cells.{same_cell}
use Rattle.renumber.proofs.first_uses.FirstUses.put_each.Given as goal

abbrev pub invariant-loop-glyph : goal.invariant-loop-glyph
invariant-loop-glyph l =
    insert_all same_cell l.self (map (λ (g : Placed). g.cell) (drop l.glyph-index l.glyph-items))
    ≡ insert_all same_cell l.initial.self (map (λ (g : Placed). g.cell) l.glyph-items)
