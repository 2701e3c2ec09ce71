-- Which words are a command.
--     command_number kind     the number of a command
--     kind_named name         the command of this name
--     cmd_given given         the command of texts and a flag
--     cmd_of words            the command that the words say, or none
--     IsKept cmd              the ranges of what a command has
use Rattle.std.specs.Prelude.{◌≡◌, ◌≤◌, ◌==◌, ℕ, Bool, List, [], ◌∷◌, length, Option, Some, None}
use Rattle.std.specs.Prelude.{codes, if◌then◌else◌, option_map, option_and_then}
use Rattle.std.specs.Str.{bytes_eq}
use Rattle.clap.specs.Walk.{Text}
use Rattle.micro_words.specs.CommandLine.{Given, is_taken, given}
use Rattle.micro_words.specs.Numerals.{number_up_to}
use Rattle.micro_words.specs.declared.command.CommandKind.{CommandKind}
use Rattle.micro_words.specs.declared.command.CommandKind.TheVariants.{Set, Breaks, Gen}
use Rattle.micro_words.specs.declared.command.Cmd.{Cmd}

-- the number of a command, in the order of the commands
abbrev pub command_number : CommandKind → ℕ
command_number Set = 1
command_number Breaks = 2
command_number Gen = 3

-- a command by its name
unfoldable pub kind_named : Text → Option CommandKind
kind_named name =
    if bytes_eq name (codes "set") then Some Set
    else if bytes_eq name (codes "breaks") then Some Breaks
    else if bytes_eq name (codes "gen") then Some Gen
    else None

-- how many texts a command takes
abbrev pub text_count : CommandKind → ℕ
text_count Set = 1
text_count Breaks = 1
text_count Gen = 1

-- the texts of a command are the names of its files, but that of `gen` is a number of paragraphs
abbrev pub files_for : CommandKind → List Text → List Text
files_for Gen texts = []
files_for kind texts = texts

abbrev pub number_for : CommandKind → List Text → Option ℕ
number_for Gen [] = None
number_for Gen (text ∷ rest) = number_up_to 20000 text
number_for kind texts = Some 0

-- a command of its texts, if it can read them
abbrev pub cmd_for : CommandKind → List Text → ℕ → Bool → Option Cmd
cmd_for kind texts workers report = option_map (λ number. record {
  command = kind;
  files = files_for kind texts;
  number = number;
  workers = workers;
  report = report;
}) (number_for kind texts)

-- a command with its workers, if as many texts are given as it takes
abbrev pub cmd_with : Given → CommandKind → ℕ → Option Cmd
cmd_with g kind workers =
    if length g.texts == text_count kind then cmd_for kind g.texts workers g.report else None

-- a command, with from 1 to 64 workers
abbrev pub cmd_named : Given → CommandKind → Option Cmd
cmd_named g kind =
    option_and_then (cmd_with g kind) (option_and_then (number_up_to 64) g.workers)

-- the command of texts and a flag
unfoldable pub cmd_given : Given → Option Cmd
cmd_given g = option_and_then (cmd_named g) (option_and_then kind_named g.command)

-- the command of the words of the command line, of which the first is the program's name
unfoldable pub cmd_of : List Text → Option Cmd
cmd_of words = if is_taken words then cmd_given (given words) else None

-- from 1 to 20000 paragraphs of `gen`, and no number of another command
abbrev pub has_number : CommandKind → ℕ → Type 0
has_number Gen number = (1 ≤ number) × (number ≤ 20000)
has_number kind number = number ≡ 0

-- how many files a command reads
abbrev pub file_count : CommandKind → ℕ
file_count Set = 1
file_count Breaks = 1
file_count Gen = 0

-- what a command keeps to, with from 1 to 64 workers
pub record IsKept (cmd : Cmd) : Type 0 where
  pub some : 1 ≤ cmd.workers
  pub few : cmd.workers ≤ 64
  pub number : has_number cmd.command cmd.number
  pub files : length cmd.files ≡ file_count cmd.command
