use Rattle.std.proofs.Common.{◌≡◌, ◌+◌, drop}
use Rattle.hlist_build.specs.Counts.{part_count}
use Rattle.hlist_build.proofs.counting.has_many_parts.Given as goal

abbrev pub invariant-loop-one : goal.invariant-loop-one
invariant-loop-one l = l.room + part_count l.parts ≡ 16384 + part_count (drop l.one-index l.parts)
