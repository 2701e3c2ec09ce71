-- The first kern of a font is one of its kerns.
use Rattle.std.proofs.Common.{◌≡◌, ◌<◌, sym, ap, ◌∙◌, arith, List, [], ◌∷◌, length, w32, FitsSigned, to_z, of_z}
use Rattle.std.specs.Prelude.{ℤ, negsuc, Some, Contains, slice_get}
use Rattle.std.proofs.lemmas.Int.{ints, to_z-of_z, fits_signed_from_abs}
use Rattle.std.proofs.lemmas.List.Elements.{All-contains, Contains-get_or}
use Rattle.std.proofs.lemmas.Option.{none-some, same_Some}
use Rattle.micro_num.specs.Scaling.{IsFixWord}
use Rattle.tfm_read.specs.declared.tfm.Tfm.{Tfm}
use Rattle.font_stock.specs.declared.font.Font.{Font}
use Rattle.hlist.specs.declared.item.Item.TheVariants.{FontKern}
use Rattle.break_tests.specs.Simple.{IsSimple}
use Rattle.break_tests.proofs.fits.kern_behind_o.Goals as goal

head-in : (xs : List ℤ) (x : ℤ) → Some x ≡ slice_get xs 0 → Contains xs x
head-in [] x is = absurd (none-some x (sym is))
head-in (y ∷ ys) x is =
    let there : 0 < length (y ∷ ys) = omega arith in
    rw (same_Some x y is) (Contains-get_or (y ∷ ys) 0 y there)

fits : (font : Font) (fix : ℤ) → Contains font.tfm.kerns fix → FitsSigned w32 fix
fits font fix contains =
    let word : IsFixWord fix = All-contains IsFixWord font.tfm.kerns fix font.tfm.kerns_fit contains in
    fits_signed_from_abs w32 fix (omega (arith, ints, word.low, word.high))

simple : (stock : List Font) (font : Font) (fix same : ℤ) → slice_get stock 0 ≡ Some font
    → Contains font.tfm.kerns fix → same ≡ fix
    → IsSimple stock (FontKern (negsuc 40959) (Some (record { font = 0; code = 111; fix = same })))
simple stock font fix same is contains back = record {
  once = omega arith;
  short = tt;
  over = record { font = font; is = is; holds = rw back contains };
}

pub returns : goal.returns
returns c =
    let font = c.font.result.now in
    let fix = c.in_ok-fix.field-0.now in
    let kerns = c.as_slice-kerns.ensures ∙ ap (λ (tfm : Tfm). tfm.kerns) c.tfm.ensures in
    let contains = head-in font.tfm.kerns fix (c.in_ok-fix.ensures.value ∙ ap (λ (ks : List ℤ). slice_get ks 0) kerns) in
    simple c.args.stock.now font fix (to_z w32 (of_z w32 fix)) c.font.ensures contains
    (to_z-of_z w32 fix (fits font fix contains))
