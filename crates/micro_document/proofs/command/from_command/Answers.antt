use Rattle.std.proofs.Common.{Err, sym, subst}
use Rattle.micro_document.specs.declared.stop.Stop.{Stop}
use Rattle.micro_document.specs.Document.{CommandFrom}
use Rattle.micro_document.specs.Finding.{Finds}
use Rattle.micro_document.proofs.GenSteps.{gen_stopped}
use Rattle.micro_document.proofs.command.from_command.Goals as goal

pub returns-in-Err-clause-finds : goal.returns-in-Err-clause-finds
returns-in-Err-clause-finds g c =
    let shelf = g.S.Shelf.state c.args.shelf.now in
    let F : Stop → Type 0 = λ stop. Finds 0 (CommandFrom c.args.cmd.now) shelf shelf (Err stop) in
    subst F (sym c.of.ensures)
    (gen_stopped c.args.cmd.now shelf c.in-Err.answer (g.met.S.Shelf.counts_fit c.args.shelf.now).calls c.in-Gen.is c.in-Err.ensures.settles)
