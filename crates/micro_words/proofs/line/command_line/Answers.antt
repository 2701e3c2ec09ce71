-- The command is built argument by argument, as its definition says.
use Rattle.std.proofs.Common.{rules, ◌≡◌, ◌∙◌, ap, ap₂}
use Rattle.std.specs.Prelude.{Option, Some, None, IsSomeAnd}
use Rattle.std.proofs.lemmas.Result.{IfOk-weaker}
use Rattle.clap.specs.Walk.{Rule, rule_of}
use Rattle.clap.specs.Lexer.{usize_max}
use Rattle.clap.specs.declared.builder.range.ValueRange.{ValueRange}
use Rattle.clap.specs.Simple.{with_rule}
use Rattle.micro_words.specs.CommandLine.{command_argument, files_argument, workers_option, report_flag}
use Rattle.micro_words.proofs.line.command_line.Goals as goal

abbrev any_number : ValueRange
any_number = record { start_inclusive = 0; end_inclusive = usize_max }

is_range : (range : Option ValueRange) → IsSomeAnd range (λ r. r ≡ any_number) → range ≡ Some any_number
is_range (Some own) is = ap (λ (r : ValueRange). Some r) is
is_range None is = absurd is

pub returns : goal.returns
returns c =
    let command : rule_of c.required-command.result ≡ command_argument = search rules in
    let range : c.num_args-files.result.num_vals ≡ Some any_number = is_range _ c.num_args-files.ensures.1 in
    let files : rule_of c.num_args-files.result ≡ files_argument
    = ap rule_of c.num_args-files.ensures.0
    ∙ ap (λ (own : Option ValueRange). record (rule_of c.new-2.result) { range = own }) range
    ∙ ap (λ (own : Rule). record own { range = Some any_number }) c.new-2.ensures.rule in
    let workers : rule_of c.default_value-workers.result ≡ workers_option = search rules in
    let report : rule_of c.action-report.result ≡ report_flag = search rules in
    IfOk-weaker c.arg-4.result _ _ (λ line adds. adds.shape (search rules)
    ∙ ap₂ with_rule (c.in_ok-arg-3.ensures.shape (search rules)
    ∙ ap₂ with_rule (c.in_ok-arg-2.ensures.shape (search rules)
    ∙ ap₂ with_rule (c.in_ok-arg.ensures.shape (search rules)
    ∙ ap₂ with_rule c.new-line.ensures.app command) files) workers) report) c.arg-4.ensures
