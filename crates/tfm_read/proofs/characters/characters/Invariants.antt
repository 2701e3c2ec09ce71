use Rattle.std.proofs.Common.{◌≡◌, get_or}
use Rattle.tfm_read.specs.Characters.{char_by, no_indices}
use Rattle.tfm_read.specs.Entries.{entries}
use Rattle.tfm_read.proofs.characters.characters.Given as goal

abbrev pub invariant-loop-code : goal.invariant-loop-code
invariant-loop-code l = l.chars.items ≡ entries (λ code. char_by l.tables (get_or l.indices code no_indices)) l.code
