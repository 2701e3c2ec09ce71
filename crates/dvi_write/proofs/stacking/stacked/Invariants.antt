use Rattle.std.proofs.Common.{◌≡◌, ◌++◌, length, true, None}
use Rattle.std.specs.List.{AllByRecursion, last_or}
use Rattle.std.specs.Vec.Iter.{into_iter_items, into_iter_len}
use Rattle.dvi_write.specs.Stacking.{stacked, is_stackable}
use Rattle.dvi_write.proofs.stacking.stacked.Given as goal

-- the lines so far are on their baselines, and what is left goes below the last of them
abbrev pub invariant-loop-line : goal.invariant-loop-line
invariant-loop-line l = record {
  rest : l.placed.items ++ stacked l.params (last_or None l.placed.items) (into_iter_items l.line-iterator) ≡ stacked l.params None (into_iter_items l.initial.line-iterator);
  fits : AllByRecursion (λ placed. is_stackable placed ≡ true) l.placed.items;
  count : into_iter_len l.line-iterator ≡ length (into_iter_items l.line-iterator);
}
