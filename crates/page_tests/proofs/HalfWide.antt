-- A font of characters that are half a design size wide is one that instances are made of.
use Rattle.std.proofs.Common.{◌∷◌, [], pos, arith, refl, rules}
use Rattle.std.proofs.lemmas.List.Elements.{All-replicate, All-from_recursion}
use Rattle.std.proofs.lemmas.Int.{ints}
use Rattle.micro_num.specs.Expansion.{expanded, thousandths_of}
use Rattle.instance_core.specs.Bases.{IsBase, AreBases, IsStretchable}
use Rattle.instance_core.specs.Worked.{half_wide}

wide : IsStretchable 20 (pos 524288)
unfolding expanded thousandths_of
wide = record {
  own = record { low = omega (arith, ints); high = omega (arith, ints) };
  widest = record { low = search rules; high = search rules };
}

base : IsBase (half_wide 1)
base = record {
  size = record { low = omega (arith, ints); high = omega (arith, ints) };
  codes = refl;
  some = omega arith;
  stretch_whole = refl;
  shrink_whole = refl;
  shrink_fits = omega arith;
  few = omega arith;
  widths = All-replicate (IsStretchable 20) 256 (pos 524288) wide;
}

pub half_wide-is : AreBases (half_wide 1 ∷ [])
half_wide-is = record {
  few = omega arith;
  each = All-from_recursion IsBase (half_wide 1 ∷ []) (base, tt);
}
