use Rattle.std.proofs.Common.{◌≡◌, map, take}
use Rattle.std.specs.Prelude.{All}
use Rattle.instance_core.specs.Bases.{IsBase}
use Rattle.hpack_two.specs.Over.{base_of}
use Rattle.hpack_two.proofs.bases.bases_of.Given as goal

-- the fonts so far, in range
abbrev pub invariant-loop-number : goal.invariant-loop-number
invariant-loop-number l = record {
  are : l.fonts.items ≡ map base_of (take l.number l.stock);
  kept : All IsBase l.fonts.items;
}
