-- The size of a font, in sp (TeX: The Program, section 568).
use Rattle.std.specs.Prelude.{◌≤◌, ℤ, pos, ◌*ℤ◌, ◌≤ℤ◌}
use Rattle.micro_num.specs.Rounding.{truncated}
use Rattle.font_stock.specs.declared.size.Size.{Size}
use Rattle.font_stock.specs.declared.size.Size.TheVariants.{Design, At, Scaled}

-- a size as a job may ask for it: at least 1 sp, or 1 to 32768 thousandths
abbrev pub IsSize : Size → Type 0
IsSize Design = Unit {0}
IsSize (At size) = pos 1 ≤ℤ size
IsSize (Scaled by) = (1 ≤ by) × (by ≤ 32768)

-- the size that is asked for of a font of a design size; thousandths of it are cut
unfoldable pub size_of : ℤ → Size → ℤ
size_of design Design = design
size_of design (At size) = size
size_of design (Scaled by) = truncated (design *ℤ pos by) (pos 1000)
