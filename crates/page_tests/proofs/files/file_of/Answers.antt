use Rattle.std.proofs.Common.{◌∷◌, [], ap, ◌∙◌, arith}
use Rattle.dvi_write.specs.declared.row.FontRow.{FontRow}
use Rattle.page_tests.proofs.ThreeLetters.{copies_writable, copies_few}
use Rattle.page_tests.proofs.files.file_of.Goals as goal

pub make-requires : goal.make-requires
make-requires c =
    omega (arith, copies_few c.deref.result.now c.args.count (c.deref.ensures.value ∙ c.in_ok-pages.ensures), c.requires.few)

pub dvi_bytes-requires-clause-writable : goal.dvi_bytes-requires-clause-writable
dvi_bytes-requires-clause-writable c =
    copies_writable (c.in_ok-tiny10.field-0 ∷ []) c.deref-2.result.now c.args.count (ap (λ (row : FontRow). row ∷ []) c.in_ok-tiny10.ensures)
    (c.deref-2.ensures.value ∙ c.in_ok-pages.ensures)
