use Rattle.std.proofs.Common.{◌≡◌, ◌-◌, ◌<◌, ◌≤◌, true, [], length, take, drop}
use Rattle.std.specs.Option.{ForSome}
use Rattle.hlist_build.specs.Given.{behind, given_behind}
use Rattle.hlist_build.specs.Parts.{run_codes, goes_on, factor_before}
use Rattle.hlist_build.specs.Spaces.{current_before}
use Rattle.hlist_build.proofs.building.push_parts.Given as goal

abbrev pub invariant-loop-at : goal.invariant-loop-at
invariant-loop-at l = record {
  within : l.at ≤ length l.parts;
  so_far : behind l.list (given_behind l.params l.tables l.stock (take l.at l.parts) (drop l.at l.parts))
      ≡ behind l.fn.list (given_behind l.params l.tables l.stock [] l.parts);
  current : l.current ≡ current_before l.params l.stock (take l.at l.parts);
  in_stock : ForSome l.current (λ now. now.font < length l.stock);
  factor : l.factor ≡ factor_before l.tables (take l.at l.parts);
  positive : 0 < l.factor;
  fresh : goes_on (take l.at l.parts) ≡ true → run_codes (drop l.at l.parts) ≡ [];
}

abbrev pub decreases-loop-at : goal.decreases-loop-at
decreases-loop-at l = length l.parts - l.at
