-- The first place inside is the first of the numbers that are left.
use Rattle.std.proofs.Common.{◌≡◌, ◌+◌, ◌-◌}
use Rattle.std.specs.List.{find, range_with_len}
use Rattle.hlist_hyph.specs.Pieces.{first_inside, is_place}
use Rattle.hlist_hyph.proofs.places.first_inside.Given as goal

abbrev pub invariant-loop-n : goal.invariant-loop-n
invariant-loop-n l =
    first_inside l.places l.from l.count ≡ find (λ n. is_place l.places (l.from + n)) (range_with_len l.n (l.count - l.n))
