-- Pages over the stock are few in fonts, and can be written.
use Rattle.std.proofs.Common.{◌∙◌, sym, subst, List}
use Rattle.std.specs.Prelude.{All}
use Rattle.dvi_write.specs.Writable.{IsWritable}
use Rattle.dvi_write.specs.declared.row.FontRow.{FontRow}
use Rattle.job_dvi.proofs.StockCells.{few-uses}
use Rattle.job_dvi.proofs.WritableOver.{length-rows, names-short, writable-over}
use Rattle.job_dvi.specs.Rows.{rows_of}
use Rattle.job_dvi.proofs.bytes.job_bytes.Goals as goal

pub make-requires : goal.make-requires
make-requires c = few-uses c.args.stock.now c.args.pages.now c.in_ok-rows.ensures.few c.requires.over

pub dvi_bytes-requires-clause-writable : goal.dvi_bytes-requires-clause-writable
dvi_bytes-requires-clause-writable c =
    let fonts = c.args.fonts.now in
    let stock = c.args.stock.now in
    let same = c.as_slice.ensures ∙ c.in_ok-rows.ensures.exact in
    subst (λ (rows : List FontRow). All (IsWritable rows) c.args.pages.now) (sym same)
    (writable-over (rows_of fonts stock) stock c.args.pages.now (length-rows fonts stock c.requires.same) (names-short fonts stock c.requires.names) c.requires.over)
