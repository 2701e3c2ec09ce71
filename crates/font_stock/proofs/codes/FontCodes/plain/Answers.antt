use Rattle.std.proofs.Common.{arith, pos}
use Rattle.std.proofs.lemmas.Int.{ints}
use Rattle.std.proofs.lemmas.List.Elements.{All-replicate}
use Rattle.font_stock.specs.Ranges.{IsHang, IsFactor}
use Rattle.font_stock.proofs.codes.FontCodes.plain.Goals as goal

no_hang : IsHang (pos 0)
no_hang = record { low = omega (arith, ints); high = omega (arith, ints) }

pub invariant_of-result : goal.invariant_of-result
invariant_of-result c = record {
  left_fits = All-replicate IsHang 256 (pos 0) no_hang;
  right_fits = All-replicate IsHang 256 (pos 0) no_hang;
  ef_fits = All-replicate IsFactor 256 1000 (omega arith);
}
