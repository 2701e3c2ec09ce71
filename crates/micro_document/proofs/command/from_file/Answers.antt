use Rattle.micro_document.specs.Document.{finish_of}
use Rattle.micro_document.proofs.Steps.{file_missed, file_goes_on}
use Rattle.micro_document.proofs.command.from_file.Goals as goal

pub returns-in-Err-clause-finds : goal.returns-in-Err-clause-finds
returns-in-Err-clause-finds g c =
    file_missed (finish_of c.args.task) c.args.name.now (g.S.Shelf.state c.args.shelf.now) (g.S.Shelf.state c.read_file.new.shelf) c.in-Err.stop
    (record { stays = c.in-Err.ensures.stays; called = c.in-Err.ensures.called; fits = (g.met.S.Shelf.counts_fit c.read_file.new.shelf).calls }) c.in-Err.ensures.missed

pub returns-clause-finds : goal.returns-clause-finds
returns-clause-finds g c =
    file_goes_on (finish_of c.args.task) c.args.name.now c.in-Ok.bytes (g.S.Shelf.state c.args.shelf.now) (g.S.Shelf.state c.read_file.new.shelf) (g.S.Shelf.state c.from_job.new.shelf) c.from_job.result
    c.in-Ok.ensures.read
    (record { stays = c.in-Ok.ensures.stays; called = c.in-Ok.ensures.called; fits = (g.met.S.Shelf.counts_fit c.read_file.new.shelf).calls }) c.from_job.ensures.finds
