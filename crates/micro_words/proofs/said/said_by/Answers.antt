-- Each text that is missing or says nothing makes no command, in the order of the definition.
use Rattle.std.proofs.Common.{◌≡◌, ◌∙◌, sym, ap, ap₂, Bool, codes, option_map, List, length}
use Rattle.std.specs.Prelude.{Some, None, Option, unwrap_or, [], map}
use Rattle.std.specs.Borrow.{Bor}
use Rattle.clap.specs.Matches.{found_of, matched_of, raw_values}
use Rattle.clap.specs.Walk.{Text, all_of, rows_of}
use Rattle.clap.proofs.WalkLemmas.{first_value-rows, raw_values-rows}
use Rattle.clap.specs.declared.parser.matches.ArgMatches.{ArgMatches}
use Rattle.micro_words.specs.CommandLine.{Given, given_in}
use Rattle.std.proofs.lemmas.List.{length-map}
use Rattle.micro_words.specs.Commands.{files_for, number_for}
use Rattle.micro_words.specs.Said.{cmd_said}
use Rattle.micro_words.proofs.Commands.{no_command, no_kind, no_workers, bad_workers, no_texts, bad_count, bad_texts, is_command}
use Rattle.micro_words.proofs.said.said_by.Goals as goal

abbrev given_by : ArgMatches → Given
given_by matches = given_in (rows_of (found_of matches))

abbrev plain : List (Bor Text) → List Text
plain = map (λ text. text.now)

texts_given : (matches : ArgMatches) (files : List (Bor Text))
    → option_map raw_values (matched_of (found_of matches) (codes "files")) ≡ Some (plain files)
    → (given_by matches).texts ≡ plain files
texts_given matches files raw =
    ap (λ (own : Option (List Text)). unwrap_or own []) (sym (raw_values-rows (found_of matches) (codes "files")) ∙ raw)

counted : (texts : List Text) (files : List (Bor Text)) → texts ≡ plain files → length texts ≡ length files
counted texts files is = ap (λ (own : List Text). length own) is ∙ length-map files (λ text. text.now)

pub returns-in_err-get_str : goal.returns-in_err-get_str
returns-in_err-get_str c =
    let found = found_of c.args.matches.now in
    let command = sym (first_value-rows found (codes "command")) ∙ sym c.in_err-get_str.ensures in
    ap (option_map cmd_said) c.from_residual.ensures ∙ no_command (given_by c.args.matches.now) command

pub returns-in_err-kind : goal.returns-in_err-kind
returns-in_err-kind c =
    let found = found_of c.args.matches.now in
    let command = sym (first_value-rows found (codes "command")) ∙ sym c.in_ok-get_str.ensures in
    ap (option_map cmd_said) c.from_residual-in_err-kind.ensures
    ∙ no_kind (given_by c.args.matches.now) _ command (sym c.in_err-kind.ensures)

pub returns-in_err-get_str-2 : goal.returns-in_err-get_str-2
returns-in_err-get_str-2 c =
    let found = found_of c.args.matches.now in
    let command = sym (first_value-rows found (codes "command")) ∙ sym c.in_ok-get_str.ensures in
    let workers = sym (first_value-rows found (codes "workers")) ∙ sym c.in_err-get_str-2.ensures in
    ap (option_map cmd_said) c.from_residual-in_err-get_str-2.ensures
    ∙ no_workers (given_by c.args.matches.now) _ _ command (sym c.in_ok-kind.ensures) workers

pub returns-in_err-workers : goal.returns-in_err-workers
returns-in_err-workers c =
    let found = found_of c.args.matches.now in
    let command = sym (first_value-rows found (codes "command")) ∙ sym c.in_ok-get_str.ensures in
    let workers = sym (first_value-rows found (codes "workers")) ∙ sym c.in_ok-get_str-2.ensures in
    ap (option_map cmd_said) c.from_residual-in_err-workers.ensures
    ∙ bad_workers (given_by c.args.matches.now) _ _ _ command (sym c.in_ok-kind.ensures) workers (sym c.in_err-workers.ensures)

pub returns-in_err-texts : goal.returns-in_err-texts
returns-in_err-texts c =
    let found = found_of c.args.matches.now in
    let command = sym (first_value-rows found (codes "command")) ∙ sym c.in_ok-get_str.ensures in
    let workers = sym (first_value-rows found (codes "workers")) ∙ sym c.in_ok-get_str-2.ensures in
    let all : all_of (codes "files") (rows_of found) ≡ None
    = sym (raw_values-rows found (codes "files")) ∙ sym c.in_err-texts.ensures in
    let texts : (given_by c.args.matches.now).texts ≡ [] = ap (λ (own : Option (List Text)). unwrap_or own []) all in
    ap (option_map cmd_said) c.from_residual-in_err-texts.ensures
    ∙ no_texts (given_by c.args.matches.now) _ _ _ _ command (sym c.in_ok-kind.ensures) workers (sym c.in_ok-workers.ensures)
    texts

pub returns-then-texts-text_count : goal.returns-then-texts-text_count
returns-then-texts-text_count c =
    let found = found_of c.args.matches.now in
    let command = sym (first_value-rows found (codes "command")) ∙ sym c.in_ok-get_str.ensures in
    let workers = sym (first_value-rows found (codes "workers")) ∙ sym c.in_ok-get_str-2.ensures in
    let texts : (given_by c.args.matches.now).texts ≡ plain c.in_ok-texts.texts.now
    = texts_given c.args.matches.now c.in_ok-texts.texts.now (sym c.in_ok-texts.ensures) in
    let count = counted _ c.in_ok-texts.texts.now texts in
    bad_count (given_by c.args.matches.now) _ _ _ _ command (sym c.in_ok-kind.ensures) workers (sym c.in_ok-workers.ensures)
    (λ right. c.if-texts-text_count.true (sym count ∙ right ∙ sym c.text_count.ensures))

pub returns-in_err-number : goal.returns-in_err-number
returns-in_err-number c =
    let found = found_of c.args.matches.now in
    let command = sym (first_value-rows found (codes "command")) ∙ sym c.in_ok-get_str.ensures in
    let workers = sym (first_value-rows found (codes "workers")) ∙ sym c.in_ok-get_str-2.ensures in
    let texts : (given_by c.args.matches.now).texts ≡ plain c.in_ok-texts.texts.now
    = texts_given c.args.matches.now c.in_ok-texts.texts.now (sym c.in_ok-texts.ensures) in
    let count = counted _ c.in_ok-texts.texts.now texts in
    ap (option_map cmd_said) c.from_residual-in_err-number.ensures
    ∙ bad_texts (given_by c.args.matches.now) _ _ _ _ command (sym c.in_ok-kind.ensures) workers (sym c.in_ok-workers.ensures)
    (count ∙ c.if-texts-text_count.false ∙ c.text_count.ensures)
    (ap (number_for c.in_ok-kind.kind) texts ∙ sym c.in_err-number.ensures)

pub returns : goal.returns
returns c =
    let found = found_of c.args.matches.now in
    let command = sym (first_value-rows found (codes "command")) ∙ sym c.in_ok-get_str.ensures in
    let workers = sym (first_value-rows found (codes "workers")) ∙ sym c.in_ok-get_str-2.ensures in
    let texts : (given_by c.args.matches.now).texts ≡ plain c.in_ok-texts.texts.now
    = texts_given c.args.matches.now c.in_ok-texts.texts.now (sym c.in_ok-texts.ensures) in
    let count = counted _ c.in_ok-texts.texts.now texts in
    let kind = c.in_ok-kind.kind in
    ap₂ (λ (files : List Text) (report : Bool). Some (record {
      command = kind;
      files = files;
      number = c.in_ok-number.number;
      workers = c.in_ok-workers.workers;
      report = report;
    })) (ap (files_for kind) (sym texts)) c.is_reported-report.ensures
    ∙ is_command (given_by c.args.matches.now) _ _ _ _ _ command (sym c.in_ok-kind.ensures) workers (sym c.in_ok-workers.ensures)
    (count ∙ c.if-texts-text_count.false ∙ c.text_count.ensures)
    (ap (number_for kind) texts ∙ sym c.in_ok-number.ensures)
