use Rattle.std.proofs.Common.{◌≡◌, ◌++◌, replicate}
use Rattle.std.specs.List.{concat}
use Rattle.micro_words.specs.Fonts.{lengths, header, character}
use Rattle.micro_words.proofs.font.gen_font.Given as goal

abbrev pub invariant-loop-character : goal.invariant-loop-character
invariant-loop-character l = l.bytes.items ≡ lengths ++ header ++ concat (replicate l._character character)
