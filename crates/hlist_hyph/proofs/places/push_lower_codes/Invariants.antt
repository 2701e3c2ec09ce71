-- The rest of the letters is to come.
use Rattle.std.proofs.Common.{◌≡◌, ◌++◌, drop}
use Rattle.std.specs.Prelude.{map}
use Rattle.hlist_hyph.specs.Words.{lower}
use Rattle.hlist_hyph.proofs.places.push_lower_codes.Given as goal

abbrev pub invariant-loop-code : goal.invariant-loop-code
invariant-loop-code l =
    l.word.items ++ map (lower l.tables) (drop l.code-index l.codes) ≡ l.fn.word.items ++ map (lower l.tables) l.codes
