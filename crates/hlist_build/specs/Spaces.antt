-- The spaces of a paragraph's text (TeX: The Program, sections 1041 to 1044).
use Rattle.std.specs.Prelude.{ℕ, ◌≤◌, ℤ, pos, negsuc, ◌+ℤ◌, ◌*ℤ◌, Bool, not, ◌&&◌, ◌==◌, nat_le, if◌then◌else◌, List, Option, Some, None, slice_get, option_map, option_and_then}
use Rattle.std.specs.Int.{int_min, int_max}
use Rattle.std.specs.Ordering.{int_eq}
use Rattle.std.proofs.Common.{lit≤}
use Rattle.font_stock.specs.Fonts.{param_at}
use Rattle.font_stock.specs.declared.font.Font.{Font}
use Rattle.micro_num.specs.Rounding.{truncated}
use Rattle.micro_num.specs.declared.glue.Glue.{Glue}
use Rattle.micro_num.specs.declared.paragraph.PartAt.{PartAt}
use Rattle.micro_num.specs.declared.params.Params.{Params}
use Rattle.hlist_build.specs.declared.current.Current.{Current}
use Rattle.hlist_build.specs.Parts.{font_before}

-- the space between words that a font asks for, and what it adds after a full stop
abbrev pub font_space : Font → Glue
font_space font = record {
  width = param_at font.tfm 1 font.size;
  stretch = param_at font.tfm 2 font.size;
  order = 0;
  shrink = param_at font.tfm 3 font.size;
  order_exists = lit≤ tt;
}

abbrev pub extra_space : Font → ℤ
extra_space font = param_at font.tfm 6 font.size

-- a glue counts as set where one of its sizes isn't 0
abbrev pub is_set : Glue → Bool
is_set glue = not (int_eq glue.width (pos 0) && int_eq glue.stretch (pos 0) && int_eq glue.shrink (pos 0))

-- the normal space is spaceskip where that is set, and else the font's
abbrev pub normal_space : Params → Font → Glue
normal_space params font = if is_set params.spaceskip then params.spaceskip else font_space font

-- a font of the stock as the one that text is in
abbrev pub current_in : Params → List Font → ℕ → Option Current
current_in params stock number =
    option_map (λ font. record { font = number; normal = normal_space params font; extra = extra_space font })
    (slice_get stock number)

abbrev pub current_before : Params → List Font → List PartAt → Option Current
current_before params stock before = option_and_then (current_in params stock) (font_before before)

-- a size brought into ±(2^30 - 1)
abbrev pub bounded : ℤ → ℤ
bounded z = int_max (negsuc 1073741822) (int_min z (pos 1073741823))

-- The normal space as a space factor changes it: wider by the extra space from 2000 on, and with a stretch
-- that is `factor / 1000` times as much, and a shrink that is `1000 / factor` times as much.
abbrev pub wider : Current → ℕ → ℤ
wider current factor = if nat_le 2000 factor then current.normal.width +ℤ current.extra else current.normal.width

abbrev pub changed_space : Current → ℕ → Glue
changed_space current factor = record current.normal {
  width = bounded (wider current factor);
  stretch = bounded (truncated (current.normal.stretch *ℤ pos factor) (pos 1000));
  shrink = bounded (truncated (current.normal.shrink *ℤ pos 1000) (pos factor));
}

-- what a space gives at a space factor: at 1000 the normal space, from 2000 on xspaceskip where that is
-- set, and else the normal space, changed
abbrev pub space_at : Params → Current → ℕ → Glue
space_at params current factor =
    if factor == 1000 then current.normal
    else if nat_le 2000 factor && is_set params.xspaceskip then params.xspaceskip
    else changed_space current factor
