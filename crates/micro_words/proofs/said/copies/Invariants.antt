use Rattle.std.proofs.Common.{◌≡◌, map, take}
use Rattle.micro_words.proofs.said.copies.Given as goal

abbrev pub invariant-loop-text : goal.invariant-loop-text
invariant-loop-text l = l.files ≡ map (λ text. text.now) (take l.text-index l.texts)
