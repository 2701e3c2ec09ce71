-- The fonts of a job, and what is said of them (pdfTeX manual).
use Rattle.std.specs.Prelude.{ℕ, ◌+◌, ◌*◌, ◌/◌, min, ℤ, pos, negsuc, neg_ℤ, int_lt, Bool, false, List, map, slice_get, slice_set, Option, Some, None, is_some, if◌then◌else◌, replicate}
use Rattle.std.specs.Option.{option_map}
use Rattle.font_stock.specs.declared.codes.FontCodes.{FontCodes}
use Rattle.font_stock.specs.declared.expand.Expand.{Expand}
use Rattle.font_stock.specs.declared.size.Size.{Size}
use Rattle.job_text.specs.declared.font_decl.FontDecl.{FontDecl}

-- hangs in the margins and shares in expansion of the 256 codes, and the hyphen character
pub record Codes : Type 0 where
  pub left : List ℤ
  pub right : List ℤ
  pub factors : List ℕ
  pub hyphen : ℤ

-- how far a font stretches and shrinks, and in which steps
pub record Limits : Type 0 where
  pub stretch : ℕ
  pub shrink : ℕ
  pub step : ℕ

-- a font as a job declares it
pub record Font : Type 0 where
  pub name : List ℕ
  pub size : Size
  pub codes : Codes
  pub expand : Option Limits

abbrev pub codes_of : FontCodes → Codes
codes_of codes = record { left = codes.left; right = codes.right; factors = codes.ef; hyphen = codes.hyphen }

abbrev pub limits_of : Expand → Limits
limits_of expand = record { stretch = expand.stretch; shrink = expand.shrink; step = expand.step }

abbrev pub font_of : FontDecl → Font
font_of decl = record { name = decl.name; size = decl.size; codes = codes_of decl.codes; expand = option_map limits_of decl.expand }

abbrev pub fonts_of : List FontDecl → List Font
fonts_of = map font_of

-- nothing is said of its characters: none hangs, all expand fully, and the hyphen is `-`
abbrev pub new_font : List ℕ → Size → Font
new_font name size = record {
  name = name;
  size = size;
  codes = record { left = replicate 256 (pos 0); right = replicate 256 (pos 0); factors = replicate 256 1000; hyphen = pos 45 };
  expand = None;
}

abbrev pub change_found : List Font → ℕ → (Font → Font) → Option Font → List Font
change_found fonts number change None = fonts
change_found fonts number change (Some font) = slice_set fonts number (change font)

-- the fonts with one changed
abbrev pub change_font : List Font → ℕ → (Font → Font) → List Font
change_font fonts number change = change_found fonts number change (slice_get fonts number)

abbrev pub with_left : ℕ → ℤ → Font → Font
with_left code hang font = record font { codes = record { left = slice_set font.codes.left code hang; right = font.codes.right; factors = font.codes.factors; hyphen = font.codes.hyphen } }

abbrev pub with_right : ℕ → ℤ → Font → Font
with_right code hang font = record font { codes = record { left = font.codes.left; right = slice_set font.codes.right code hang; factors = font.codes.factors; hyphen = font.codes.hyphen } }

abbrev pub with_factor : ℕ → ℕ → Font → Font
with_factor code factor font = record font { codes = record { left = font.codes.left; right = font.codes.right; factors = slice_set font.codes.factors code factor; hyphen = font.codes.hyphen } }

abbrev pub with_hyphen : ℤ → Font → Font
with_hyphen hyphen font = record font { codes = record { left = font.codes.left; right = font.codes.right; factors = font.codes.factors; hyphen = hyphen } }

abbrev pub with_expand : Limits → Font → Font
with_expand limits font = record font { expand = Some limits }

abbrev pub is_expanded : Option Font → Bool
is_expanded None = false
is_expanded (Some font) = is_some font.expand

-- a hang is brought into -1000 to 1000
abbrev pub hang_of : ℤ → ℤ
hang_of value = if int_lt value (neg_ℤ (pos 1000)) then neg_ℤ (pos 1000) else (if int_lt (pos 1000) value then pos 1000 else value)

-- a share is brought into 0 to 1000
abbrev pub factor_of : ℤ → ℕ
factor_of (pos n) = min n 1000
factor_of (negsuc n) = 0

-- the limits cut to whole steps
abbrev pub whole_limits : ℕ → ℕ → ℕ → Limits
whole_limits stretch shrink step = record { stretch = stretch / step * step; shrink = shrink / step * step; step = step }

-- how many steps there are
abbrev pub step_count : Limits → ℕ
step_count limits = (limits.stretch + limits.shrink) / limits.step
