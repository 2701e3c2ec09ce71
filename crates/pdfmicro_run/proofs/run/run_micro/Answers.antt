use Rattle.micro_document.specs.Words.{word_texts, workers_of}
use Rattle.micro_document.specs.Document.{Doc}
use Rattle.micro_document.proofs.OneOutcome.{one_outcome}
use Rattle.micro_words.specs.Commands.{cmd_of}
use Rattle.std.proofs.Common.{◌≡◌, None}
use Rattle.pdfmicro_run.specs.Ran.{outside}
use Rattle.pdfmicro_run.proofs.ExactRuns.{exact_run, complete_run}
use Rattle.pdfmicro_run.proofs.Headlines.{built_told, headline_run}
use Rattle.pdfmicro_run.proofs.WordsTold.{bad_told, only_told}
use Rattle.pdfmicro_run.proofs.run.run_micro.Goals as goal

pub returns-clause-exact : goal.returns-clause-exact
returns-clause-exact g c =
    let before = outside (g.S.Shelf.state c.args.shelf.now) (g.O.Sink.state c.args.out.now) (g.T.Sink.state c.args.talk.now) in
    let after = outside (g.S.Shelf.state c.find-found.new.shelf) (g.O.Sink.state c.tell.new.out) (g.T.Sink.state c.tell.new.talk) in
    let words = word_texts c.args.words.now in
    exact_run (Doc words) before after c.tell.result (g.met.S.Shelf.names_differ c.args.shelf.now) (one_outcome words)
    (record { found = c.find-found.result; finds = c.find-found.ensures.finds; tells = c.tell.ensures.tells before.shelf after.shelf })

pub returns-clause-complete : goal.returns-clause-complete
returns-clause-complete g c =
    let before = outside (g.S.Shelf.state c.args.shelf.now) (g.O.Sink.state c.args.out.now) (g.T.Sink.state c.args.talk.now) in
    let after = outside (g.S.Shelf.state c.find-found.new.shelf) (g.O.Sink.state c.tell.new.out) (g.T.Sink.state c.tell.new.talk) in
    let words = word_texts c.args.words.now in
    complete_run (Doc words) before after c.tell.result
    (exact_run (Doc words) before after c.tell.result (g.met.S.Shelf.names_differ c.args.shelf.now) (one_outcome words)
    (record { found = c.find-found.result; finds = c.find-found.ensures.finds; tells = c.tell.ensures.tells before.shelf after.shelf }))

pub returns-clause-bad_words : goal.returns-clause-bad_words
returns-clause-bad_words g c =
    let before = outside (g.S.Shelf.state c.args.shelf.now) (g.O.Sink.state c.args.out.now) (g.T.Sink.state c.args.talk.now) in
    let after = outside (g.S.Shelf.state c.find-found.new.shelf) (g.O.Sink.state c.tell.new.out) (g.T.Sink.state c.tell.new.talk) in
    λ none. bad_told c.find-found.result before after c.tell.result (c.tell.ensures.tells before.shelf after.shelf) (c.find-found.ensures.bad none)

pub returns-clause-only_words : goal.returns-clause-only_words
returns-clause-only_words g c =
    let before = outside (g.S.Shelf.state c.args.shelf.now) (g.O.Sink.state c.args.out.now) (g.T.Sink.state c.args.talk.now) in
    let after = outside (g.S.Shelf.state c.find-found.new.shelf) (g.O.Sink.state c.tell.new.out) (g.T.Sink.state c.tell.new.talk) in
    only_told (cmd_of (word_texts c.args.words.now) ≡ None) c.find-found.result before after c.tell.result (c.tell.ensures.tells before.shelf after.shelf) c.find-found.ensures.only

pub returns-clause-workers : goal.returns-clause-workers
returns-clause-workers g c =
    let before = outside (g.S.Shelf.state c.args.shelf.now) (g.O.Sink.state c.args.out.now) (g.T.Sink.state c.args.talk.now) in
    let after = outside (g.S.Shelf.state c.find-found.new.shelf) (g.O.Sink.state c.tell.new.out) (g.T.Sink.state c.tell.new.talk) in
    built_told (workers_of (cmd_of (word_texts c.args.words.now))) c.find-found.result before after c.tell.result (c.tell.ensures.tells before.shelf after.shelf) c.find-found.ensures.workers

pub returns-clause-headline : goal.returns-clause-headline
returns-clause-headline g c =
    let before = outside (g.S.Shelf.state c.args.shelf.now) (g.O.Sink.state c.args.out.now) (g.T.Sink.state c.args.talk.now) in
    let after = outside (g.S.Shelf.state c.find-found.new.shelf) (g.O.Sink.state c.tell.new.out) (g.T.Sink.state c.tell.new.talk) in
    let words = word_texts c.args.words.now in
    headline_run words before after c.tell.result
    (exact_run (Doc words) before after c.tell.result (g.met.S.Shelf.names_differ c.args.shelf.now) (one_outcome words)
    (record { found = c.find-found.result; finds = c.find-found.ensures.finds; tells = c.tell.ensures.tells before.shelf after.shelf }))
    (built_told (workers_of (cmd_of words)) c.find-found.result before after c.tell.result (c.tell.ensures.tells before.shelf after.shelf) c.find-found.ensures.workers)
