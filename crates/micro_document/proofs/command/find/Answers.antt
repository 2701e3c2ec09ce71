use Rattle.std.proofs.Common.{Option, IfOk, Err, sym, subst}
use Rattle.micro_words.specs.Commands.{cmd_of}
use Rattle.micro_words.specs.declared.command.Cmd.{Cmd}
use Rattle.micro_document.specs.declared.stop.Stop.{Stop}
use Rattle.micro_document.specs.Document.{Doc}
use Rattle.micro_document.specs.Finding.{Finds}
use Rattle.micro_document.specs.Making.{IsMadeBy}
use Rattle.micro_document.specs.Words.{word_texts, workers_of}
use Rattle.micro_document.proofs.BadWordsAlone.{only_found}
use Rattle.micro_document.proofs.Findings.{finds_no_memory}
use Rattle.micro_document.proofs.Steps.{words_refused, words_go_on}
use Rattle.micro_document.proofs.command.find.Goals as goal

pub returns-in-Ok-clause-only : goal.returns-in-Ok-clause-only
returns-in-Ok-clause-only g c =
    let command = cmd_of (word_texts c.args.words.now) in
    let shelf = g.S.Shelf.state c.args.shelf.now in
    let later = g.S.Shelf.state c.from_command.new.shelf in
    only_found command shelf later c.from_command.result (words_go_on command c.in-Ok.cmd shelf later c.from_command.result c.in-Ok.ensures.read c.from_command.ensures.finds)

pub returns-in-Err-BadWords-clause-finds : goal.returns-in-Err-BadWords-clause-finds
returns-in-Err-BadWords-clause-finds g c =
    let shelf = g.S.Shelf.state c.args.shelf.now in
    let F : Stop → Type 0 = λ stop. Finds 0 (Doc (word_texts c.args.words.now)) shelf shelf (Err stop) in
    subst F (sym c.of.ensures)
    (words_refused (cmd_of (word_texts c.args.words.now)) shelf (g.met.S.Shelf.counts_fit c.args.shelf.now).calls (c.in-Err-BadWords.ensures.bad c.in-Err-BadWords.field-0-is))

pub returns-in-Err-NoMemory-clause-finds : goal.returns-in-Err-NoMemory-clause-finds
returns-in-Err-NoMemory-clause-finds g c =
    let shelf = g.S.Shelf.state c.args.shelf.now in
    let F : Stop → Type 0 = λ stop. Finds 0 (Doc (word_texts c.args.words.now)) shelf shelf (Err stop) in
    subst F (sym c.of-in-Err-NoMemory.ensures)
    (finds_no_memory 0 (Doc (word_texts c.args.words.now)) shelf (g.met.S.Shelf.counts_fit c.args.shelf.now).calls)

pub returns-in-Ok-clause-workers : goal.returns-in-Ok-clause-workers
returns-in-Ok-clause-workers g c =
    let P : Option Cmd → Type 0 = λ command. IfOk c.from_command.result (IsMadeBy (workers_of command)) in
    subst P (sym c.in-Ok.ensures.read) c.from_command.ensures.workers
