use Rattle.std.proofs.Common.{◌≡◌, ◌+◌, ◌%◌, ◌&&◌, leb, eqb, filter, get_or}
use Rattle.std.specs.List.{range_with_len}
use Rattle.liang_hyph.proofs.values.odd_places.Given as goal

abbrev pub invariant-loop-h : goal.invariant-loop-h
invariant-loop-h l =
    l.places.items ≡ filter (λ h. leb l.before h && leb (h + l.after) l.len && eqb (get_or l.values h 0 % 2) 1) (range_with_len 0 l.h)
