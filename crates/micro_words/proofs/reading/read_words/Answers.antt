-- clap takes the words exactly where its definition does, and then gives the texts that the definition gives.
use Rattle.std.proofs.Common.{◌≡◌, ◌∙◌, refl, sym, ap, map, string_bytes, true, false}
use Rattle.std.specs.Prelude.{Some}
use Rattle.clap.specs.Matches.{found_of}
use Rattle.clap.specs.Simple.{app_of}
use Rattle.clap.specs.Walk.{rows_of}
use Rattle.micro_words.specs.CommandLine.{given, given_in, is_taken}
use Rattle.micro_words.specs.Commands.{cmd_of, cmd_given}
use Rattle.micro_words.specs.declared.command.Cmd.{Cmd}
use Rattle.micro_words.proofs.Commands.{kept}
use Rattle.micro_words.proofs.Taken.{given_by_matches, taken, refused}
use Rattle.micro_words.proofs.reading.read_words.Goals as goal

pub returns-in-Some-clause-read : goal.returns-in-Some-clause-read
unfolding cmd_of
returns-in-Some-clause-read c =
    let words = map string_bytes c.args.words.now in
    let took : is_taken words ≡ true
    = taken (app_of c.in_ok-line.line) words c.in-Ok.matches c.in_ok-line.ensures c.in-Ok.ensures.kinds in
    let gives : given_in (rows_of (found_of c.in-Ok.matches)) ≡ given words
    = given_by_matches (app_of c.in_ok-line.line) words c.in-Ok.matches c.in_ok-line.ensures c.in-Ok.ensures.matches in
    rw took (ap cmd_given (sym gives) ∙ sym c.in-Some.ensures ∙ ap (λ (cmd : Cmd). Some cmd) (sym c.in_ok-command-in-Some.ensures))

pub returns-in-Ok-clause-bad : goal.returns-in-Ok-clause-bad
unfolding cmd_of
returns-in-Ok-clause-bad c = λ bad.
    let words = map string_bytes c.args.words.now in
    let took : is_taken words ≡ true
    = taken (app_of c.in_ok-line.line) words c.in-Ok.matches c.in_ok-line.ensures c.in-Ok.ensures.kinds in
    let gives : given_in (rows_of (found_of c.in-Ok.matches)) ≡ given words
    = given_by_matches (app_of c.in_ok-line.line) words c.in-Ok.matches c.in_ok-line.ensures c.in-Ok.ensures.matches in
    rw took (ap cmd_given (sym gives) ∙ sym c.in-None.ensures)

pub returns-clause-bad : goal.returns-clause-bad
unfolding cmd_of
returns-clause-bad c = λ bad.
    let words = map string_bytes c.args.words.now in
    let left : is_taken words ≡ false
    = refused (app_of c.in_ok-line.line) words c.in-Err.error c.in_ok-line.ensures c.in-Err.ensures.kinds (c.refusal.ensures bad) in
    rw left refl

pub returns-in-Some-clause-kept : goal.returns-in-Some-clause-kept
returns-in-Some-clause-kept c =
    kept (given_in (rows_of (found_of c.in-Ok.matches))) c.in_ok-command-in-Some.field-0
    (sym c.in-Some.ensures ∙ ap (λ (cmd : Cmd). Some cmd) (sym c.in_ok-command-in-Some.ensures))
