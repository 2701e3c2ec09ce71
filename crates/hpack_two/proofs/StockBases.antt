-- The fonts of a stock are such as instances are made of.
--     base-kept       each of them
--     made-is         it is the one that was made
--     map-next        one more font
use Rattle.std.proofs.Common.{◌≡◌, ℕ, zero, suc, ◌+◌, ◌<◌, refl, ap, sym, ◌∙◌, subst, arith, List, [], ◌∷◌, ◌++◌, length, map, take, Option, Some, None, ℤ, pos}
use Rattle.std.specs.Prelude.{All, slice_get, slice_index_or}
use Rattle.std.proofs.lemmas.Int.{ints}
use Rattle.std.proofs.lemmas.List.{length-map}
use Rattle.std.proofs.lemmas.List.Elements.{All-nil, All-cons}
use Rattle.micro_num.specs.Expansion.{expanded}
use Rattle.micro_num.specs.Scaling.{IsFixWord, IsFontSize}
use Rattle.micro_num.proofs.Expansions.{expanded-none}
use Rattle.tfm_read.specs.declared.character.CharInfo.{CharInfo}
use Rattle.tfm_read.specs.declared.tfm.Tfm.{Tfm}
use Rattle.tfm_read.specs.Ranges.{no_char}
use Rattle.font_stock.specs.declared.expand.Expand.{Expand}
use Rattle.font_stock.specs.declared.font.Font.{Font}
use Rattle.font_stock.specs.Steps.{IsStepOf}
use Rattle.instance_core.specs.Bases.{IsBase, IsStretchable}
use Rattle.hpack_two.specs.Over.{base_of, base_with}
use Rattle.hpack_two.proofs.Fonts.{some-is}

all-widths : (stretch : ℕ) (chars : List CharInfo) → ((code : ℕ) → code < length chars → IsStretchable stretch (slice_index_or chars code no_char).width)
    → All (IsStretchable stretch) (map (λ (char : CharInfo). char.width) chars)
all-widths stretch [] each = All-nil (IsStretchable stretch)
all-widths stretch (char ∷ chars) each =
    All-cons (IsStretchable stretch) char.width (map (λ (c : CharInfo). c.width) chars) (each 0 (omega arith))
    (all-widths stretch chars (λ code inside. each (suc code) (omega (arith, inside))))

-- the greatest stretch is a step of the font
stretch-step : (e : Expand) → IsStepOf e (pos e.stretch)
stretch-step e = record { low = omega (arith, ints); high = omega (arith, ints); whole = e.limits.stretch_whole }

-- what is known of the widths of a font
abbrev pub KnowsWidths : Tfm → Option Expand → Type 0
KnowsWidths tfm expand =
    (code : ℕ) → code < 256 → IsFixWord (slice_index_or tfm.chars code no_char).width
    × ((step : ℤ) (e : Expand) → expand ≡ Some e → IsStepOf e step → IsFixWord (expanded (slice_index_or tfm.chars code no_char).width step))

with-kept : (size : ℤ) (tfm : Tfm) (expand : Option Expand) → IsFontSize size → KnowsWidths tfm expand
    → IsBase (base_with size (map (λ (char : CharInfo). char.width) tfm.chars) expand)
with-kept size tfm None size_fits knows = record {
  size = size_fits;
  codes = length-map tfm.chars (λ (char : CharInfo). char.width) ∙ tfm.every_code;
  some = omega arith;
  stretch_whole = refl;
  shrink_whole = refl;
  shrink_fits = omega arith;
  few = omega arith;
  widths = all-widths 0 tfm.chars (λ code inside.
      let own = (knows code (subst (λ (n : ℕ). code < n) tfm.every_code inside)).0 in
      record { own = own; widest = subst IsFixWord (sym (expanded-none (slice_index_or tfm.chars code no_char).width)) own });
}
with-kept size tfm (Some e) size_fits knows = record {
  size = size_fits;
  codes = length-map tfm.chars (λ (char : CharInfo). char.width) ∙ tfm.every_code;
  some = e.limits.step_starts;
  stretch_whole = e.limits.stretch_whole;
  shrink_whole = e.limits.shrink_whole;
  shrink_fits = e.limits.shrink_fits;
  few = e.limits.few;
  widths = all-widths e.stretch tfm.chars (λ code inside.
      let known = knows code (subst (λ (n : ℕ). code < n) tfm.every_code inside) in
      record { own = known.0; widest = known.1 (pos e.stretch) e refl (stretch-step e) });
}

pub base-kept : (font : Font) → KnowsWidths font.tfm font.expand → IsBase (base_of font)
unfolding base_of
base-kept font knows = with-kept font.size font.tfm font.expand font.size_fits knows

-- a font that was made of a font's size, widths and limits
pub made-is : (font : Font) (size : ℤ) (widths : List ℤ) (expand : Option Expand) → size ≡ font.size
    → widths ≡ map (λ (char : CharInfo). char.width) font.tfm.chars → font.expand ≡ expand → base_with size widths expand ≡ base_of font
unfolding base_of
made-is font size widths expand size_is widths_are expand_is = rw (size_is, widths_are, ← expand_is) refl

map-suc : {X Y : Type 0} (f : X → Y) (xs : List X) (i : ℕ) (x : X) → slice_get xs i ≡ Some x → map f (take (suc i) xs) ≡ map f (take i xs) ++ f x ∷ []
map-suc f [] i x is = absurd (cc)
map-suc f (y ∷ ys) zero x is = ap (λ z. f z ∷ []) (some-is y x is)
map-suc f (y ∷ ys) (suc i) x is = ap (λ rest. f y ∷ rest) (map-suc f ys i x is)

pub map-next : {X Y : Type 0} (f : X → Y) (xs : List X) (i : ℕ) (x : X) → slice_get xs i ≡ Some x → map f (take (i + 1) xs) ≡ map f (take i xs) ++ f x ∷ []
map-next f xs i x is =
    let one : i + 1 ≡ suc i = omega arith in
    ap (λ (n : ℕ). map f (take n xs)) one ∙ map-suc f xs i x is
