-- Lengths in units, in sp (TeX: The Program, section 458).
use Rattle.std.specs.Prelude.{◌≡◌, refl, ℕ, ◌+◌, ◌*◌, ◌/◌, ◌%◌}
use Rattle.micro_num.specs.declared.unit.Unit.{Unit as LengthUnit}
use Rattle.micro_num.specs.declared.unit.Unit.TheVariants.{Pt, In, Pc, Cm, Mm, Bp, Dd, Cc, Sp}

-- a unit's size as a fraction of a point, num/den
pub record Ratio : Type 0 where
  pub num : ℕ
  pub den : ℕ

abbrev pub points_of : LengthUnit → Ratio
points_of Pt = record { num = 1; den = 1 }
points_of In = record { num = 7227; den = 100 }
points_of Pc = record { num = 12; den = 1 }
points_of Cm = record { num = 7227; den = 254 }
points_of Mm = record { num = 7227; den = 2540 }
points_of Bp = record { num = 7227; den = 7200 }
points_of Dd = record { num = 1238; den = 1157 }
points_of Cc = record { num = 14856; den = 1157 }
points_of Sp = record { num = 1; den = 65536 }

-- whole + fraction/65536 units of num/den points, in sp: the whole points, and of what is left the rest
abbrev pub size_in_points : Ratio → ℕ → ℕ → ℕ
size_in_points ratio whole fraction =
    65536 * (whole * ratio.num / ratio.den)
    + (ratio.num * fraction + 65536 * (whole * ratio.num % ratio.den)) / ratio.den

-- whole + fraction/65536 units in sp; a fraction of a scaled point is dropped
unfoldable pub unit_size : ℕ → ℕ → LengthUnit → ℕ
unit_size whole fraction Sp = whole
unit_size whole fraction unit = size_in_points (points_of unit) whole fraction

-- an inch, and the greatest length in points below 2^30 sp
pub inch : unit_size 1 0 In ≡ 4736286
unfolding unit_size
inch = refl

pub greatest_points : unit_size 16383 65535 Pt ≡ 1073741823
unfolding unit_size
greatest_points = refl
