use Rattle.std.proofs.Common.{◌∙◌}
use Rattle.micro_document.proofs.Settings.{par_answered, file_answered}
use Rattle.micro_document.proofs.setting.set_job.Goals as goal

pub returns-in-Err-Par-clause-settles : goal.returns-in-Err-Par-clause-settles
returns-in-Err-Par-clause-settles g c =
    let fault = rw c.in-Err-Par.field-0-is at c.in-Err-Par.ensures.pages in
    rw c.in-Err-Par.field-0-is (par_answered c.args.report c.args.job c.args.stock.now c.in-Err-Par.at fault)

pub returns-clause-settles : goal.returns-clause-settles
returns-clause-settles g c =
    file_answered c.args.report c.args.job c.as_slice.result.now c.args.stock.now c.in-Ok.set.pages c.in-Ok.set.closed c.file_of.result (c.as_slice.ensures ∙ c.fonts_of-fonts.ensures)
    c.in-Ok.ensures.pages c.in-Ok.ensures.bases c.in-Ok.ensures.cells
    (record {
      out = c.file_of.ensures.out;
      talk = c.file_of.ensures.talk;
      closed = c.file_of.ensures.closed;
      within = c.file_of.ensures.within;
      fault = c.file_of.ensures.fault;
    })
