use Rattle.std.proofs.Common.{◌∷◌, [], All, arith, subst, sym}
use Rattle.dvi_write.specs.declared.row.FontRow.{FontRow}
use Rattle.dvi_write.specs.Writable.{IsWritable}
use Rattle.page_bench.proofs.TimedPages.{timed_few, timed_writable}
use Rattle.page_bench.proofs.timing.round.Goals as goal

pub make-requires : goal.make-requires
make-requires g c = omega (arith, timed_few c.args.pages.now c.requires.timed)

pub dvi_bytes-requires-clause-writable : goal.dvi_bytes-requires-clause-writable
dvi_bytes-requires-clause-writable g c =
    subst (λ (row : FontRow). All (IsWritable (row ∷ [])) c.args.pages.now) (sym c.in_ok-row.ensures) (timed_writable c.args.pages.now c.requires.timed)
