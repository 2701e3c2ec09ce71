-- The values that plain TeX gives the parameters of a paragraph, in sp where they are lengths, and the codes of
-- its letters (The TeXbook, appendix B; TeX: The Program, sections 230 and 232).
use Rattle.std.specs.Prelude.{ℕ, ◌+◌, ◌*◌, ℤ, pos, Bool, nat_le, ◌&&◌, map, if◌then◌else◌}
use Rattle.std.specs.List.{range_with_len}
use Rattle.std.proofs.Common.{lit≤}
use Rattle.micro_num.specs.declared.glue.Glue.{Glue}
use Rattle.micro_num.specs.declared.params.Params.{Params}
use Rattle.micro_num.specs.declared.tables.Tables.{Tables}

-- so many points, in sp
abbrev pub points : ℕ → ℤ
points n = pos (65536 * n)

-- a glue that neither stretches nor shrinks
abbrev pub rigid : ℤ → Glue
rigid width = record { width = width; stretch = pos 0; order = 0; shrink = pos 0; order_exists = lit≤ tt }

-- 0pt plus 1fil
abbrev pub fil : Glue
fil = record { width = pos 0; stretch = points 1; order = 1; shrink = pos 0; order_exists = lit≤ tt }

-- what holds before a job assigns anything: no protrusion, no expansion, lines of 6.5 inches
unfoldable pub plain_params : Params
plain_params = record {
  pretolerance = pos 100;
  tolerance = pos 200;
  linepenalty = pos 10;
  hyphenpenalty = pos 50;
  exhyphenpenalty = pos 50;
  adjdemerits = pos 10000;
  doublehyphendemerits = pos 10000;
  finalhyphendemerits = pos 5000;
  lefthyphenmin = pos 2;
  righthyphenmin = pos 3;
  pdfprotrudechars = pos 0;
  pdfadjustspacing = pos 0;
  hsize = pos 30785863;
  parindent = points 20;
  lineskiplimit = pos 0;
  emergencystretch = pos 0;
  looseness = pos 0;
  hangafter = pos 1;
  hangindent = pos 0;
  baselineskip = rigid (points 12);
  lineskip = rigid (points 1);
  parfillskip = fil;
  leftskip = rigid (pos 0);
  rightskip = rigid (pos 0);
  spaceskip = rigid (pos 0);
  xspaceskip = rigid (pos 0);
}

-- a code is that of a letter A to Z, or a to z
abbrev pub is_upper : ℕ → Bool
is_upper code = nat_le 65 code && nat_le code 90

abbrev pub is_lower : ℕ → Bool
is_lower code = nat_le 97 code && nat_le code 122

-- a capital has the space factor 999, all else 1000
abbrev pub plain_factor : ℕ → ℕ
plain_factor code = if is_upper code then 999 else 1000

-- the letters A to Z and a to z have a lower case
abbrev pub plain_lower : ℕ → ℕ
plain_lower code = if is_upper code then code + 32 else (if is_lower code then code else 0)

-- the tables over the 256 codes
abbrev pub plain_tables : Tables
plain_tables = record { sfcode = map plain_factor (range_with_len 0 256); lccode = map plain_lower (range_with_len 0 256) }
