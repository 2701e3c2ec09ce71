-- Each part of a file lies within it.
use Rattle.std.proofs.Common.{◌+◌, ◌≤◌, arith}
use Rattle.tfm_read.specs.declared.lengths.Lengths.{Lengths}
use Rattle.tfm_read.specs.Lengths.{code_count, places_of}

pub record PartsWithin (l : Lengths) : Type 0 where
  pub header : 6 + l.header ≤ (places_of l).end
  pub chars : (places_of l).chars + code_count l ≤ (places_of l).end
  pub widths : (places_of l).widths + l.widths ≤ (places_of l).end
  pub heights : (places_of l).heights + l.heights ≤ (places_of l).end
  pub depths : (places_of l).depths + l.depths ≤ (places_of l).end
  pub italics : (places_of l).italics + l.italics ≤ (places_of l).end
  pub ligs : (places_of l).ligs + l.ligs ≤ (places_of l).end
  pub kerns : (places_of l).kerns + l.kerns ≤ (places_of l).end
  pub params : (places_of l).params + l.params ≤ (places_of l).end

pub parts_within : (l : Lengths) → PartsWithin l
unfolding places_of
parts_within l = record {
  header = omega arith;
  chars = omega arith;
  widths = omega arith;
  heights = omega arith;
  depths = omega arith;
  italics = omega arith;
  ligs = omega arith;
  kerns = omega arith;
  params = omega arith;
}
