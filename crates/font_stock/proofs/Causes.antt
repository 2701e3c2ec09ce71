-- The cause to refuse a font, by its size.
use Rattle.std.proofs.Common.{◌≡◌, refl, arith, ℤ, pos, ◌≤ℤ◌, ◌<ℤ◌, true, false, Option, Some}
use Rattle.std.specs.Prelude.{int_lt}
use Rattle.std.proofs.lemmas.Int.{ints}
use Rattle.tfm_read.specs.declared.tfm.Tfm.{Tfm}
use Rattle.font_stock.specs.declared.expand.Expand.{Expand}
use Rattle.font_stock.specs.declared.refused.FontRefused.TheVariants.{SizePast}
use Rattle.font_stock.specs.declared.size.Size.{Size}
use Rattle.font_stock.specs.Refusals.{refusal_of, too_wide, wide_kern, wide_refusal}
use Rattle.font_stock.specs.Sizes.{size_of}

not_below : (n : ℤ) → pos 134217728 ≤ℤ n → int_lt n (pos 134217728) ≡ false
not_below n above = grind (arith, ints)

is_below : (n : ℤ) → n <ℤ pos 134217728 → int_lt n (pos 134217728) ≡ true
is_below n below = grind (arith, ints)

pub refusal_of-past : (tfm : Tfm) (size : Size) (expand : Option Expand) → pos 134217728 ≤ℤ size_of tfm.design size
    → refusal_of tfm size expand ≡ Some (SizePast (size_of tfm.design size))
unfolding refusal_of
refusal_of-past tfm size expand above = rw (not_below (size_of tfm.design size) above) refl

pub refusal_of-within : (tfm : Tfm) (size : Size) (expand : Option Expand) → size_of tfm.design size <ℤ pos 134217728
    → refusal_of tfm size expand ≡ wide_refusal (too_wide expand tfm.chars) (wide_kern expand tfm.kerns)
unfolding refusal_of
refusal_of-within tfm size expand below = rw (is_below (size_of tfm.design size) below) refl
