-- What a font at a size says of its characters, kerns and spaces, in sp (TeX: The Program, sections 539 to 576;
-- pdfTeX manual, `\lpcode`, `\rpcode`, `\efcode` and `\pdffontexpand`).
use Rattle.std.specs.Prelude.{◌≡◌, refl, ℕ, nat_lt, ◌&&◌, ℤ, pos, negsuc, neg_ℤ, ◌-ℤ◌, slice_index_or, Option, Some, None, if◌then◌else◌}
use Rattle.micro_num.specs.Scaling.{scaled, halvings, halvings_within}
use Rattle.micro_num.specs.Expansion.{thousandths_of, expanded, width_at}
use Rattle.tfm_read.specs.declared.character.CharInfo.{CharInfo}
use Rattle.tfm_read.specs.declared.tfm.Tfm.{Tfm}
use Rattle.tfm_read.specs.Ranges.{no_char, exists_at}
use Rattle.font_stock.specs.declared.expand.Expand.{Expand}

-- what the font says of a code
abbrev pub char_of : Tfm → ℕ → CharInfo
char_of tfm code = slice_index_or tfm.chars code no_char

-- the code of the hyphen character, where the number set for it is a code that the font has
abbrev pub hyphen_of : Tfm → ℤ → Option ℕ
hyphen_of tfm (pos code) = if nat_lt code 256 && exists_at tfm.chars code then Some code else None
hyphen_of tfm (negsuc n) = None

-- a parameter at a size: slant, space, stretch, shrink, x-height, quad and extra space are the numbers 0 to 6
abbrev pub param_at : Tfm → ℕ → ℤ → ℤ
param_at tfm number z = scaled (slice_index_or tfm.params number (pos 0)) z

-- how much a width fix_word grows and shrinks at the limits, in thousandths of its share
unfoldable pub stretch_at : Option Expand → ℕ → ℤ → ℤ → ℤ
stretch_at None factor w z = pos 0
stretch_at (Some expand) factor w z =
    thousandths_of (width_at w (pos expand.stretch) z -ℤ width_at w (pos 0) z) (pos factor)

unfoldable pub shrink_at : Option Expand → ℕ → ℤ → ℤ → ℤ
shrink_at None factor w z = pos 0
shrink_at (Some expand) factor w z =
    thousandths_of (width_at w (pos 0) z -ℤ width_at w (neg_ℤ (pos expand.shrink)) z) (pos factor)

-- so many thousandths of the quad, a hang into a margin
abbrev pub hang_at : Tfm → ℤ → ℤ → ℤ
hang_at tfm z hang = thousandths_of (param_at tfm 5 z) hang

-- a kern of -65536 after a character of a full share, at 10pt, in a font of 20 thousandths each way: it grows by 820 sp
-- and shrinks by 819; after one of half a share it grows by 410
pub kern_stretched : (e : Expand) → e.stretch ≡ 20 → stretch_at (Some e) 1000 (negsuc 65535) (pos 655360) ≡ negsuc 819
unfolding stretch_at width_at expanded thousandths_of scaled halvings halvings_within
kern_stretched e is = rw is refl

pub kern_shrunk : (e : Expand) → e.shrink ≡ 20 → shrink_at (Some e) 1000 (negsuc 65535) (pos 655360) ≡ negsuc 818
unfolding shrink_at width_at expanded thousandths_of scaled halvings halvings_within
kern_shrunk e is = rw is refl

pub kern_of_half_a_share : (e : Expand) → e.stretch ≡ 20 → stretch_at (Some e) 500 (negsuc 65535) (pos 655360) ≡ negsuc 409
unfolding stretch_at width_at expanded thousandths_of scaled halvings halvings_within
kern_of_half_a_share e is = rw is refl
