-- The command line as a simple command of clap, and what its matches hold.
--     command_line        COMMAND, FILES, --workers with a value and --report
--     is_taken words      clap takes the words, of which the first is the program's name
--     given words         the texts and the flag that the matches then hold
use Rattle.std.specs.Prelude.{Bool, true, false, List, [], ◌∷◌, Option, Some, codes}
use Rattle.std.specs.Prelude.{unwrap_or}
use Rattle.std.specs.Option.{option_map_or}
use Rattle.std.specs.Str.{bytes_eq}
use Rattle.clap.specs.Lexer.{usize_max}
use Rattle.clap.specs.Walk.{Row, Rule, Text, is_empty, first_of, all_of}
use Rattle.clap.specs.Simple.{App, new_app, new_rule, with_rule, matches_of}
use Rattle.clap.specs.Faults.{fault_of}
use Rattle.clap.specs.declared.builder.action.ArgAction.TheVariants.{SetTrue}

-- the command's name, which must be there
abbrev pub command_argument : Rule
command_argument = record (new_rule (codes "command")) { required = true }

-- any number of texts behind it
abbrev pub files_argument : Rule
files_argument = record (new_rule (codes "files")) {
  range = Some (record { start_inclusive = 0; end_inclusive = usize_max });
}

-- an option with one value, which is 1 where it isn't given
abbrev pub workers_option : Rule
workers_option = record (new_rule (codes "workers")) {
  long = Some (codes "workers");
  defaults = codes "1" ∷ [];
}

abbrev pub report_flag : Rule
report_flag = record (new_rule (codes "report")) {
  long = Some (codes "report");
  action = Some SetTrue;
}

abbrev pub command_line : App
command_line =
    with_rule (with_rule (with_rule (with_rule (new_app (codes "pdfmicro"))
    command_argument) files_argument) workers_option) report_flag

unfoldable pub is_taken : List Text → Bool
is_taken words = is_empty (fault_of command_line words)

-- what the words give
pub record Given : Type 0 where
  pub command : Option Text
  pub texts : List Text
  pub workers : Option Text
  pub report : Bool

-- the text is that of a flag which is set
abbrev pub is_set : Option Text → Bool
is_set text = option_map_or (λ t. bytes_eq t (codes "true")) text false

abbrev pub given_in : List Row → Given
given_in rows = record {
  command = first_of (codes "command") rows;
  texts = unwrap_or (all_of (codes "files") rows) [];
  workers = first_of (codes "workers") rows;
  report = is_set (first_of (codes "report") rows);
}

unfoldable pub given : List Text → Given
given words = given_in (matches_of command_line words)
