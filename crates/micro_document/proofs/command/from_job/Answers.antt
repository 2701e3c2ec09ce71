use Rattle.std.proofs.Common.{◌+◌, length, Ok, Err, sym, subst}
use Rattle.micro_document.specs.declared.stop.Stop.{Stop}
use Rattle.micro_document.specs.Document.{JobFrom, finish_of}
use Rattle.micro_document.specs.Finding.{Finds}
use Rattle.micro_document.specs.Stopping.{stop_of}
use Rattle.micro_document.proofs.Steps.{job_refused, job_goes_on, job_made, job_unmade}
use Rattle.micro_document.proofs.command.from_job.Goals as goal

pub returns-in-Err-clause-finds : goal.returns-in-Err-clause-finds
returns-in-Err-clause-finds g c =
    let shelf = g.S.Shelf.state c.args.shelf.now in
    let F : Stop → Type 0 = λ stop. Finds 1 (JobFrom (finish_of c.args.task) c.args.bytes) shelf shelf (Err stop) in
    subst F (sym c.of.ensures)
    (job_refused (finish_of c.args.task) c.args.bytes shelf c.in-Err.answer (g.met.S.Shelf.counts_fit c.args.shelf.now).calls c.in-Err.ensures.fault)

pub returns-in-Err-read_fonts-clause-finds : goal.returns-in-Err-read_fonts-clause-finds
returns-in-Err-read_fonts-clause-finds g c =
    job_goes_on (finish_of c.args.task) c.args.bytes c.in-Ok.job (g.S.Shelf.state c.args.shelf.now) (g.S.Shelf.state c.read_fonts.new.shelf) (Err c.in-Err-read_fonts.stop) c.in-Ok.ensures.job
    (c.in-Err-read_fonts.ensures.stops (finish_of c.args.task))

pub returns-in-Ok-finish-clause-finds : goal.returns-in-Ok-finish-clause-finds
returns-in-Ok-finish-clause-finds g c =
    let finish = finish_of c.args.task in
    let later = g.S.Shelf.state c.read_fonts.new.shelf in
    job_goes_on finish c.args.bytes c.in-Ok.job (g.S.Shelf.state c.args.shelf.now) later (Ok c.in-Ok-finish.made) c.in-Ok.ensures.job
    (c.in-Ok-read_fonts.ensures.goes_on finish later (Ok c.in-Ok-finish.made)
    (job_made finish c.in-Ok.job c.in-Ok-read_fonts.stock (length c.in-Ok-read_fonts.stock + 1) later c.in-Ok-finish.made (g.met.S.Shelf.counts_fit c.read_fonts.new.shelf).calls c.in-Ok-finish.ensures.settles))

pub returns-clause-finds : goal.returns-clause-finds
returns-clause-finds g c =
    let finish = finish_of c.args.task in
    let shelf = g.S.Shelf.state c.args.shelf.now in
    let later = g.S.Shelf.state c.read_fonts.new.shelf in
    let F : Stop → Type 0 = λ stop. Finds 1 (JobFrom finish c.args.bytes) shelf later (Err stop) in
    subst F (sym c.of-in-Err-finish.ensures)
    (job_goes_on finish c.args.bytes c.in-Ok.job shelf later (Err (stop_of c.in-Err-finish.answer)) c.in-Ok.ensures.job
    (c.in-Ok-read_fonts.ensures.goes_on finish later (Err (stop_of c.in-Err-finish.answer))
    (job_unmade finish c.in-Ok.job c.in-Ok-read_fonts.stock (length c.in-Ok-read_fonts.stock + 1) later c.in-Err-finish.answer (g.met.S.Shelf.counts_fit c.read_fonts.new.shelf).calls c.in-Err-finish.ensures.settles)))
