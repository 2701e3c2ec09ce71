-- What is kept between two pieces of a line that get their places.
--     IsSet set                   what the glue is divided by isn't 0, and all is in range
--     IsPen set before pen        what a pen knows behind some pieces
use Rattle.std.specs.Prelude.{◌≡◌, ◌≢◌, ⊤, ℤ, pos, ◌+ℤ◌, ◌≤◌, ◌^◌, unsigned_abs, List}
use Rattle.break_rule.specs.declared.line.Piece.{Piece}
use Rattle.break_rule.specs.declared.line.Piece.TheVariants.{Space}
use Rattle.hpack_two.specs.declared.glue.GlueSet.{GlueSet}
use Rattle.hpack_two.specs.declared.glue.GlueSet.TheVariants.{Stretched, Shrunk}
use Rattle.hpack_two.specs.declared.places.Pen.{Pen}
use Rattle.hpack_two.specs.Glue.{given, given_by, shift_at}
use Rattle.hpack_two.specs.Lines.{Setting}
use Rattle.hpack_two.specs.Widths.{natural}

pub record CanDivide (asked total : ℤ) : Type 0 where
  pub asked_size : unsigned_abs asked ≤ 2 ^ 60
  pub total_size : unsigned_abs total ≤ 2 ^ 60
  pub some : total ≢ pos 0

abbrev pub IsSet : GlueSet → Type 0
IsSet (Stretched order lacking total) = CanDivide lacking total
IsSet (Shrunk surplus total) = CanDivide surplus total
IsSet _ = ⊤

-- only glue changes the shift
abbrev pub shift_behind : GlueSet → Piece → ℤ → ℤ → ℤ
shift_behind set (Space glue) before shift = shift_at set (before +ℤ given_by set glue)
shift_behind set _ before shift = shift

pub record IsPen (set : Setting) (before : List Piece) (pen : Pen) : Type 0 where
  pub at : pen.at ≡ set.indent +ℤ natural set.stock set.ratio before
  pub given_is : pen.given ≡ given set.glue before
  pub shift : pen.shift ≡ shift_at set.glue (given set.glue before)
