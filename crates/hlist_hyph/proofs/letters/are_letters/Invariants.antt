-- All codes are letters where the rest of them are.
use Rattle.std.proofs.Common.{◌≡◌, drop}
use Rattle.std.specs.List.{list_all}
use Rattle.hlist_hyph.specs.Words.{is_letter}
use Rattle.hlist_hyph.proofs.letters.are_letters.Given as goal

abbrev pub invariant-loop-code : goal.invariant-loop-code
invariant-loop-code l = list_all (is_letter l.tables) l.codes ≡ list_all (is_letter l.tables) (drop l.code-index l.codes)
