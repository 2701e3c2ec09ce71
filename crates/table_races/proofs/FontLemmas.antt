-- The fonts of the races are in range.
use Rattle.std.proofs.Common.{◌≡◌, ◌⊎◌, ℕ, ◌+◌, ◌≤◌, refl, ap, sym, ◌∙◌, subst, arith, List, length, replicate, ℤ, pos, All, inl, inr}
use Rattle.std.proofs.lemmas.Int.{ints}
use Rattle.std.proofs.lemmas.List.Elements.{All-same, All-replicate}
use lib.ListN.{length-replicate}
use Rattle.instance_core.specs.Bases.{IsBase, IsStretchable}
use Rattle.micro_num.specs.Expansion.{expanded, thousandths_of}
use Rattle.micro_num.specs.Scaling.{IsFixWord}
use Rattle.table_races.specs.Crews.{IsLimit}

stretched-small : expanded (pos 524288) (pos 20) ≡ pos 534774
unfolding expanded thousandths_of
stretched-small = refl

stretched-wide : expanded (pos 524288) (pos 50) ≡ pos 550502
unfolding expanded thousandths_of
stretched-wide = refl

is_word : (w v : ℤ) (n : ℕ) → w ≡ pos n → n ≤ 1000000 → IsFixWord w
is_word w v n is small = record { low = omega (arith, ints, is); high = omega (arith, ints, is) }

base_of : (limit n : ℕ) (widths : List ℤ) → limit ≤ 50 → expanded (pos 524288) (pos limit) ≡ pos n → n ≤ 1000000 → widths ≡ replicate 256 (pos 524288)
    → IsBase (record { size = pos 655360; widths = widths; stretch = limit; shrink = limit; step = 1 })
base_of limit n widths small is fits are = record {
  size = record { low = omega (arith, ints); high = omega (arith, ints) };
  codes = ap length are ∙ length-replicate 256 (pos 524288);
  some = omega arith;
  stretch_whole = omega arith;
  shrink_whole = omega arith;
  shrink_fits = omega arith;
  few = omega arith;
  widths = All-same (IsStretchable limit) widths (replicate 256 (pos 524288)) are
      (All-replicate (IsStretchable limit) 256 (pos 524288) (record {
        own = is_word (pos 524288) (pos 0) 524288 refl (omega arith);
        widest = is_word (expanded (pos 524288) (pos limit)) (pos 0) n is fits;
      }));
}

pub is_base : (limit : ℕ) (widths : List ℤ) → IsLimit limit → widths ≡ replicate 256 (pos 524288)
    → IsBase (record { size = pos 655360; widths = widths; stretch = limit; shrink = limit; step = 1 })
is_base limit widths (inl e) are =
    base_of limit 534774 widths (omega (arith, e)) (ap (λ k. expanded (pos 524288) (pos k)) e ∙ stretched-small) (omega arith) are
is_base limit widths (inr e) are =
    base_of limit 550502 widths (omega (arith, e)) (ap (λ k. expanded (pos 524288) (pos k)) e ∙ stretched-wide) (omega arith) are
