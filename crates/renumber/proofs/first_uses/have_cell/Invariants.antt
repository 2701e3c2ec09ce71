use Rattle.std.proofs.Common.{◌≡◌, true, take}
use Rattle.std.specs.List.{list_all}
use Rattle.instance_core.specs.declared.page.Placed.{Placed}
use Rattle.instance_core.specs.Cells.{same_cell}
use Rattle.renumber.proofs.first_uses.have_cell.Given as goal

abbrev pub invariant-loop-glyph : goal.invariant-loop-glyph
invariant-loop-glyph l = list_all (λ (g : Placed). same_cell g.cell l.cell) (take l.glyph-index l.glyphs) ≡ true
