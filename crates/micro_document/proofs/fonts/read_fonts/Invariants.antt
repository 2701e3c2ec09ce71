use Rattle.std.proofs.Common.{◌≡◌, length, drop}
use Rattle.micro_document.proofs.Steps.{FontsLeft}
use Rattle.micro_document.proofs.fonts.read_fonts.Given as goal

-- what is found of the fonts that are left is found of all
abbrev pub invariant-loop-decl : goal.invariant-loop-decl
invariant-loop-decl g l =
    let state = g.S.Shelf.state in
    record {
      left : FontsLeft l.job (state l.fn.shelf) l.fonts.items (drop l.decl-index l.decl-items) (state l.shelf);
      count : length l.fonts.items ≡ l.decl-index;
    }
