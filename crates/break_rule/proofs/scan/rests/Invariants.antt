use Rattle.std.proofs.Common.{◌≡◌, ◌+◌, ◌-◌, length, map}
use Rattle.std.specs.List.{range_with_len, All}
use Rattle.break_rule.specs.Kept.{IsSmallRest, rest_of}
use Rattle.break_rule.proofs.scan.rests.Given as goal

abbrev pub invariant-loop-passed : goal.invariant-loop-passed
invariant-loop-passed l = record {
  rest : l.rest ≡ rest_of l.stock l.items (length l.items - l.passed);
  small_rest : IsSmallRest l.rest;
  made : l.made.items ≡ map (λ passed. rest_of l.stock l.items (length l.items - passed)) (range_with_len 0 (l.passed + 1));
  small : All IsSmallRest l.made.items;
}
