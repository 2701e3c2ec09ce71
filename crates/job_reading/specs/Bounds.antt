-- How large the numbers, lengths and glues are that the rules read (TeX: The Program, sections 445 and 460).
use Rattle.std.specs.Prelude.{ℤ, pos, negsuc, ◌≤ℤ◌}
use Rattle.micro_num.specs.declared.glue.Glue.{Glue}

-- a size of less than 2^30 sp, either way
pub record IsLength (size : ℤ) : Type 0 where
  pub low : negsuc 1073741822 ≤ℤ size
  pub high : size ≤ℤ pos 1073741823

-- a number of less than 2^31, either way
pub record IsNumber (value : ℤ) : Type 0 where
  pub low : negsuc 2147483646 ≤ℤ value
  pub high : value ≤ℤ pos 2147483647

-- what a glue stretches by is less than 2^30 sp, or 2^30 times 2^-16 of its infinite unit
pub record IsGlue (glue : Glue) : Type 0 where
  pub width : IsLength glue.width
  pub stretch : IsLength glue.stretch
  pub shrink : IsLength glue.shrink
