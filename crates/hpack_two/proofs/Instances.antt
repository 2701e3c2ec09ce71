-- The fonts of a stock as instances are made of them.
--     instance-is       the width of a character in an instance is its advance at the step
use Rattle.std.proofs.Common.{◌≡◌, ℕ, zero, suc, refl, ap, sym, ◌∙◌, List, [], ◌∷◌, map, Option, Some, None, ℤ, pos}
use Rattle.std.specs.Prelude.{slice_get, slice_index_or, option_map, unwrap_or}
use Rattle.micro_num.specs.Expansion.{width_at}
use Rattle.tfm_read.specs.declared.character.CharInfo.{CharInfo}
use Rattle.tfm_read.specs.Ranges.{no_char}
use Rattle.font_stock.specs.declared.expand.Expand.{Expand}
use Rattle.font_stock.specs.declared.font.Font.{Font}
use Rattle.instance_core.specs.declared.font.BaseFont.{BaseFont}
use Rattle.instance_core.specs.Cells.{cell_at}
use Rattle.instance_core.specs.Instances.{width_of, no_font, instance_width}
use Rattle.hpack_two.specs.Over.{base_of, base_with}
use Rattle.hpack_two.specs.Widths.{advance_of, advance_in}
use Rattle.hpack_two.proofs.Fonts.{some-is}

index-map : {X Y : Type 0} (f : X → Y) (xs : List X) (k : ℕ) (x : X) (d : Y) → slice_get xs k ≡ Some x → slice_index_or (map f xs) k d ≡ f x
index-map f [] k x d is = absurd (cc)
index-map f (y ∷ ys) zero x d is = ap f (some-is y x is)
index-map f (y ∷ ys) (suc k) x d is = index-map f ys k x d is

index-width : (chars : List CharInfo) (code : ℕ)
    → slice_index_or (map (λ (char : CharInfo). char.width) chars) code (pos 0) ≡ (slice_index_or chars code no_char).width
index-width [] code = refl
index-width (char ∷ chars) zero = refl
index-width (char ∷ chars) (suc code) = index-width chars code

base-width : (size : ℤ) (widths : List ℤ) (expand : Option Expand) (step : ℤ) (code : ℕ)
    → width_of (base_with size widths expand) step code ≡ width_at (slice_index_or widths code (pos 0)) step size
unfolding width_of
base-width size widths None step code = refl
base-width size widths (Some e) step code = refl

pub instance-is : (stock : List Font) (number : ℕ) (step : ℤ) (code : ℕ) (font : Font) → slice_get stock number ≡ Some font
    → instance_width (map base_of stock) (cell_at number step) code ≡ advance_of stock step number code
unfolding advance_of base_of
instance-is stock number step code font is =
    ap (λ (base : BaseFont). width_of base step code) (index-map base_of stock number font no_font is)
    ∙ base-width font.size (map (λ (char : CharInfo). char.width) font.tfm.chars) font.expand step code
    ∙ ap (λ (w : ℤ). width_at w step font.size) (index-width font.tfm.chars code)
    ∙ sym (ap (λ (o : Option Font). unwrap_or (option_map (advance_in step code) o) (pos 0)) is)
