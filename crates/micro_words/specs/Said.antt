-- What the program reads off clap's matches, as a command.
--     cmd_said said     the command
use Rattle.std.specs.Prelude.{map}
use Rattle.micro_words.specs.Commands.{files_for}
use Rattle.micro_words.specs.declared.command.Cmd.{Cmd}
use Rattle.micro_words.specs.declared.said.Said.{Said}

-- the texts are copied only once the words are known to be a command
abbrev pub cmd_said : Said → Cmd
cmd_said said = record {
  command = said.kind;
  files = files_for said.kind (map (λ text. text.now) said.texts.now);
  number = said.number;
  workers = said.workers;
  report = said.report;
}
