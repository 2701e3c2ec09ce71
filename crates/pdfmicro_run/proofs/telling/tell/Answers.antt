use Rattle.std.proofs.Common.{sym, subst, Result}
use Rattle.micro_document.specs.declared.made.Made.{Made}
use Rattle.micro_document.specs.declared.stop.Stop.{Stop}
use Rattle.pdfmicro_run.specs.Ran.{outside, Tells}
use Rattle.pdfmicro_run.proofs.telling.tell.Goals as goal

pub returns-in-Ok-clause-tells : goal.returns-in-Ok-clause-tells
returns-in-Ok-clause-tells g c = λ shelf later.
    let before = outside shelf (g.O.Sink.state c.args.out.now) (g.T.Sink.state c.args.talk.now) in
    let after = outside later (g.O.Sink.state c.written.new.out) (g.T.Sink.state c.written.new.talk) in
    let P : Result Made Stop → Type 0 = λ r. Tells r before after c.written.result in
    subst P (sym c.in-Ok.is) (c.written.ensures.tells shelf later)
