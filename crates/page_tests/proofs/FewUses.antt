-- Two pages of three glyphs each use few cells.
use Rattle.std.proofs.Common.{◌≡◌, ◌≤◌, arith, [], ◌∷◌, ◌++◌, length, length-append}
use Rattle.instance_core.specs.declared.page.Page.{Page}
use Rattle.renumber.specs.Uses.{first_uses, cells_of_lines, cells_of_pages}
use Rattle.renumber.proofs.FewUses.{first_uses-fewer}

pub two_pages_few : (p q : Page) → length (cells_of_lines p.lines) ≡ 3 → length (cells_of_lines q.lines) ≡ 3
    → length (first_uses (cells_of_pages (p ∷ q ∷ []))) ≤ 65536
two_pages_few p q of_p of_q =
    omega (
      arith,
      first_uses-fewer (cells_of_pages (p ∷ q ∷ [])),
      length-append (cells_of_lines p.lines) (cells_of_lines q.lines ++ []),
      length-append (cells_of_lines q.lines) [],
      of_p,
      of_q,
    )
