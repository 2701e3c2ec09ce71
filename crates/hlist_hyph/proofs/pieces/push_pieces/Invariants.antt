-- The pieces of the rest are to come.
use Rattle.std.proofs.Common.{◌≡◌, ◌+◌, ◌≤◌, ◌++◌, false, drop, length}
use Rattle.std.specs.List.{flat_map}
use Rattle.hlist_hyph.specs.Pieces.{hyphening, pieces}
use Rattle.hlist_hyph.specs.Words.{letters}
use Rattle.hlist_hyph.proofs.pieces.push_pieces.Given as goal

abbrev pub invariant-loop-k : goal.invariant-loop-k
invariant-loop-k l =
    (l.list ++ pieces (hyphening l.font l.setting) l.from l.taken (drop l.k l.items)
    ≡ l.fn.list ++ pieces (hyphening l.font l.setting) 0 false l.items)
    × (l.from + length (flat_map letters (drop l.k l.items)) ≤ 63)
