use Rattle.std.proofs.Common.{◌∷◌, [], All, arith, subst, sym, length-append}
use Rattle.std.proofs.lemmas.List.Elements.{All-from_recursion}
use Rattle.instance_core.specs.declared.page.Page.{Page}
use Rattle.renumber.specs.Uses.{cells_of_lines, cells_of_pages}
use Rattle.renumber.proofs.FewUses.{first_uses-fewer}
use Rattle.dvi_write.specs.declared.row.FontRow.{FontRow}
use Rattle.dvi_write.specs.Worked.{tiny10}
use Rattle.dvi_write.specs.Writable.{IsWritable}
use Rattle.page_tests.proofs.fonts.file.Goals as goal

pub make-requires : goal.make-requires
make-requires c =
    let page : Page = c.in_ok-page.field-0 in
    omega (
      arith,
      first_uses-fewer (cells_of_pages (page ∷ [])),
      length-append (cells_of_lines page.lines) [],
      c.in_ok-page.ensures.count,
    )

pub dvi_bytes-requires-clause-writable : goal.dvi_bytes-requires-clause-writable
dvi_bytes-requires-clause-writable c =
    subst (λ (row : FontRow). All (IsWritable (row ∷ [])) (c.in_ok-page.field-0 ∷ [])) (sym c.in_ok-tiny10.ensures) (
    All-from_recursion (IsWritable (tiny10 ∷ [])) (c.in_ok-page.field-0 ∷ []) (c.in_ok-page.ensures.writable, tt)
    )
