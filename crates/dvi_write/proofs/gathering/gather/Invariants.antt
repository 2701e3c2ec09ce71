use Rattle.std.proofs.Common.{◌≡◌, ◌+◌, ◌++◌, take}
use Rattle.dvi_write.proofs.gathering.gather.Given as goal

abbrev pub invariant-loop-byte : goal.invariant-loop-byte
invariant-loop-byte l = record {
  count : l.count ≡ l.initial.count + l.byte-index;
  bytes : take l.count l.gathered ≡ take l.initial.count l.initial.gathered ++ take l.byte-index l.more;
}
