use Rattle.std.proofs.Common.{ap, ◌∙◌}
use Rattle.dvi_write.specs.Writing.{file_bytes}
use Rattle.dvi_write.proofs.Grown.{on_ok_same}
use Rattle.dvi_write.proofs.WritableCells.{puttable, definable}
use Rattle.dvi_write.proofs.WrittenPages.{file_spelled}
use Rattle.dvi_write.proofs.file.put_document.Goals as goal

pub put_file-requires-clause-puttable : goal.put_file-requires-clause-puttable
put_file-requires-clause-puttable c = puttable c.args.rows.now c.args.pages.now c.args.numbering.now c.requires.writable c.requires.numbered

pub put_file-requires-clause-definable : goal.put_file-requires-clause-definable
put_file-requires-clause-definable c = definable c.args.rows.now c.args.pages.now c.args.numbering.now c.requires.writable c.requires.numbered

pub returns : goal.returns
returns c =
    on_ok_same c.put_file.result c.args.out.now c.put_file.new.out _ _ c.put_file.ensures
    (ap (λ cells. file_bytes c.args.rows.now cells c.args.pages.now) c.requires.numbered ∙ file_spelled c.args.rows.now c.args.pages.now)
