use Rattle.std.proofs.Common.{◌≡◌, ◌++◌, take}
use Rattle.std.specs.Vec.{vec_capacity}
use Rattle.instance_table.proofs.joining.take_in.Given as goal

abbrev pub invariant-loop-claimed : goal.invariant-loop-claimed
invariant-loop-claimed l =
    (l.claims.items ≡ l.initial.claims.items ++ take l.claimed-index l.fn.more.items) × (vec_capacity l.claims ≡ vec_capacity l.initial.claims)
