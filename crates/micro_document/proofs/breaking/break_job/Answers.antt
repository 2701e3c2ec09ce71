use Rattle.std.proofs.Common.{List, None, refl, sym, subst}
use Rattle.std.specs.Prelude.{All, length}
use Rattle.micro_num.specs.declared.paragraph.Par.{Par}
use Rattle.para_workers.specs.Pages.{IsSettable}
use Rattle.micro_document.proofs.Breakings.{lines_answered, fault_answered}
use Rattle.micro_document.proofs.Settings.{settable, made_of}
use Rattle.micro_document.proofs.breaking.break_job.Goals as goal

pub break_pars-requires-clause-pars : goal.break_pars-requires-clause-pars
break_pars-requires-clause-pars c =
    let P : List Par → Type 0 = λ pars. All (IsSettable (length c.args.stock.now)) pars in
    subst P (sym c.as_slice-3.ensures) (settable c.args.job c.args.stock.now c.requires.fits c.requires.count)

pub returns-in-Ok-clause-settles : goal.returns-in-Ok-clause-settles
returns-in-Ok-clause-settles c =
    lines_answered c.args.job c.args.stock.now c.in_ok-table.table c.as_slice-3.result.now (record { out = c.new.result; talk = c.in-Ok.talk; closed = None })
    (made_of c.in_ok-table.table c.args.job c.as_slice.result.now c.as_slice-2.result.now c.as_slice.ensures c.as_slice-2.ensures c.in_ok-table.ensures) c.as_slice-3.ensures c.in-Ok.ensures.lines
    c.new.ensures refl

pub returns-in-Err-Par-clause-settles : goal.returns-in-Err-Par-clause-settles
returns-in-Err-Par-clause-settles c =
    let fault = rw c.in-Err-Par.field-0-is at c.in-Err-Par.ensures.lines in
    rw c.in-Err-Par.field-0-is (fault_answered c.args.job c.args.stock.now c.in_ok-table.table c.as_slice-3.result.now c.in-Err-Par.at
    (made_of c.in_ok-table.table c.args.job c.as_slice.result.now c.as_slice-2.result.now c.as_slice.ensures c.as_slice-2.ensures c.in_ok-table.ensures) c.as_slice-3.ensures fault)
