use Rattle.std.proofs.Common.{refl}
use Rattle.clap.proofs.OnLiterals.{clap_on_literals}
use Rattle.micro_words.specs.Numerals.{is_plain_numeral, number_up_to}
use Rattle.micro_words.specs.CommandLine.{is_taken, given}
use Rattle.micro_words.specs.Commands.{kind_named, cmd_given, cmd_of}
use Rattle.micro_words.proofs.worked.words_are_these_commands.Goals as goal

pub returns : goal.returns
unfolding clap_on_literals is_plain_numeral number_up_to is_taken given kind_named cmd_given cmd_of
returns c = record { set = refl; breaks = refl; generated = refl }
