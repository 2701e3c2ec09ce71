-- What setting asks of the lengths of a paragraph.
--     HasLengths params lines   its width, its hanging indentation and its shape are in range
use Rattle.std.specs.Prelude.{◌<◌, ◌^◌, unsigned_abs, List, All}
use Rattle.micro_num.specs.declared.params.Params.{Params}
use Rattle.micro_num.specs.declared.shape.ShapeLine.{ShapeLine}
use Rattle.micro_num.specs.Shape.{IsShapeLine}

-- within ±(2^30 - 1) sp
pub record HasLengths (params : Params) (lines : List ShapeLine) : Type 0 where
  pub hsize : unsigned_abs params.hsize < 2 ^ 30
  pub hangindent : unsigned_abs params.hangindent < 2 ^ 30
  pub shape : All IsShapeLine lines
