use Rattle.std.proofs.Common.{◌≡◌, map, take}
use Rattle.tfm_read.specs.declared.character.CharInfo.{CharInfo}
use Rattle.hpack_two.proofs.bases.width_words.Given as goal

abbrev pub invariant-loop-char : goal.invariant-loop-char
invariant-loop-char l = l.widths.items ≡ map (λ (char : CharInfo). char.width) (take l.char-index l.chars)
