-- The fitness class of a line (TeX: The Program, sections 817, 852 and 853).
use Rattle.std.specs.Prelude.{ℕ, nat_lt, if◌then◌else◌}
use Rattle.micro_num.specs.declared.line_class.TheConstants.{VERY_LOOSE, LOOSE, DECENT, TIGHT}

-- the class of a line that stretches with a badness
abbrev pub class_stretched : ℕ → ℕ
class_stretched badness = if nat_lt 99 badness then VERY_LOOSE else (if nat_lt 12 badness then LOOSE else DECENT)

-- the class of a line that doesn't stretch, with a badness
abbrev pub class_shrunk : ℕ → ℕ
class_shrunk badness = if nat_lt 12 badness then TIGHT else DECENT
